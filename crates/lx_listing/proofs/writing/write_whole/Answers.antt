use Rattle.lx_listing.proofs.writing.write_whole.Goals as goal

pub returns-in-Ok-clause-ok : goal.returns-in-Ok-clause-ok
returns-in-Ok-clause-ok g c = c.in-Ok.ensures.ok.appends

pub returns-in-Err-clause-err : goal.returns-in-Err-clause-err
returns-in-Err-clause-err g c = let wrote = c.in-Err.ensures.err in (wrote.prefix, (wrote.rest, wrote.whole), wrote.appends)
