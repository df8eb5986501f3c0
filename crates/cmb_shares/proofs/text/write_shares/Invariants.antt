use Rattle.cmb_dump.specs.Shown.{subject_of}
use Rattle.cmb_shares.specs.Inner.Opened.{run_of}
use Rattle.cmb_shares.proofs.text.write_shares.Given as goal

abbrev pub ghosts-write_named : goal.ghosts-write_named
ghosts-write_named g a = record { run = run_of (subject_of a.design.now a.shown) a.partition.now a.windows }
