use Rattle.std.proofs.Common.{◌≡◌, ◌<◌}
use Rattle.std.specs.Io.KnownBytes.{Appends}
use Rattle.cmb_run_free.specs.Inner.TextWriters.{IsWithin, told}
use Rattle.cmb_run_free.proofs.text_run.TextWriterCollect.collect.Given as goal

-- the sink took what the text writer gave
abbrev pub invariant-loop : goal.invariant-loop
invariant-loop g l =
    (goal.iterator-loop g).can_next l.iterator' × (goal.iterator-loop g).is_finite l.iterator'
    × (l.fresh < 64)
    × IsWithin g.T.ClusterRun.design l.self.written
    × Appends (g.S.Sink.taken l.fn.sink) (g.S.Sink.taken l.sink) (told g.T.ClusterRun.design l.self.written)
    × (g.S.Sink.failures l.sink ≡ g.S.Sink.failures l.fn.sink)
