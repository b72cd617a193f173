use Rattle.std.proofs.Common.{◌∙◌, ap}
use Rattle.clap.specs.Words.{app_of, with_rule}
use Rattle.lx_cli.proofs.Adding.{adds_argument, ends_arguments}
use Rattle.lx_cli.proofs.Globals.{or_false}
use Rattle.lx_cli.proofs.app.with_arguments.Goals as goal

pub loop-argument-preserved : goal.loop-argument-preserved
loop-argument-preserved c =
    let added = c.in_ok-command.ensures in
    record {
      app =
          adds_argument _ _ _ c.args.arguments.now c.loop-argument.argument-index _ c.loop-argument-test.true
          (added.shape c.arg_of.ensures.local ∙ ap (with_rule (app_of c.loop-argument.command)) c.arg_of.ensures.rule) c.loop-argument.invariant.app;
      local = λ none. added.globals ∙ or_false _ _ (c.loop-argument.invariant.local none) c.arg_of.ensures.local;
    }

pub returns-clause-app : goal.returns-clause-app
returns-clause-app c = ends_arguments _ _ c.args.arguments.now c.loop-argument.argument-index c.loop-argument-test.false c.loop-argument.invariant.app
