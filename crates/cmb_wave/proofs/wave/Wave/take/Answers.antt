use Rattle.std.proofs.Common.{◌≡◌, ◌≤◌, ◌<◌, arith, None}
use Rattle.cmb_wave.proofs.Lists.{part_from, trace_of_part}
use Rattle.cmb_wave.specs.Waveform.{IsPart, clash, last_level}
use Rattle.cmb_wave.proofs.wave.Wave.take.Goals as goal

pub extend-requires : goal.extend-requires
extend-requires c =
    let same : c.self.inside.clock ≡ c.args.self.now.clock = grind arith in
    let begins : c.args.piece.now.from ≤ c.args.self.now.clock = grind arith in
    let ends : c.args.self.now.clock < c.args.piece.now.to = grind arith in
    let fits : clash (last_level c.args.self.now.kept c.args.self.now.changes) c.since-more.result.now ≡ None = cc in
    let more : IsPart c.args.self.now.clock c.since-more.result.now c.args.piece.now.to =
    rw (c.since-more.ensures, same) (part_from _ _ _ _ begins ends c.changes.ensures.part)
    in
    rw c.to-in-None.ensures (trace_of_part _ _ _ _ more fits)
