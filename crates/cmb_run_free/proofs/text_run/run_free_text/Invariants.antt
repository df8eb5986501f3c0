use Rattle.cmb_run_free.proofs.text_run.run_free_text.Given as goal

abbrev pub ghosts-run_named : goal.ghosts-run_named
ghosts-run_named g a = record { design = a.design.now; clustering = a.clustering.now }
