use Rattle.std.proofs.Common.{◌≡◌, drop}
use Rattle.cmb_core_cluster.specs.Trims.{least_need}
use Rattle.cmb_core_cluster.proofs.trim.least_need_of.Given as goal

abbrev pub invariant-loop-reader : goal.invariant-loop-reader
invariant-loop-reader l = least_need l.nodes l.waves (drop l.reader-index l.readers) l.least ≡ least_need l.nodes l.waves l.readers l.most
