use Rattle.std.proofs.Common.{[], subst, sym}
use Rattle.lx_scan.specs.declared.place.Place.{Place}
use Rattle.lx_scan.specs.Streams.{IsWalked}
use Rattle.lx_scan.proofs.Streaming.{first_is, first_parts}
use Rattle.lx_scan.proofs.progress.Progress.begin.Goals as goal

pub returns-clause-progress : goal.returns-clause-progress
returns-clause-progress c =
    let walk = c.begin.result in
    record {
      parts = first_parts c.args.tables.now c.at.result c.begin-place.result walk.read walk.state.0 walk.found.last c.tables_are_well_formed.ensures c.begin-place.ensures c.at.ensures.after (subst (λ (p : Place). IsWalked c.args.tables.now p [] walk.read walk.state.0 walk.found.last) (sym c.at.ensures.after.place_is) (c.begin.ensures.walked []));
      silent = c.begin.ensures.silent [];
    }

pub returns-clause-stream : goal.returns-clause-stream
returns-clause-stream c = first_is c.args.tables.now c.at.result c.begin-place.result c.begin-place.ensures c.at.ensures.after
