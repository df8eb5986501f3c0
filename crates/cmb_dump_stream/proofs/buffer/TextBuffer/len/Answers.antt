use Rattle.std.proofs.Common.{◌≡◌, ◌+◌, length, subst, arith}
use Rattle.cmb_dump.specs.Shown.{subject_of}
use Rattle.cmb_dump_stream.specs.Parts.{TextBuffer, made_text}
use Rattle.cmb_dump_stream.proofs.StreamFacts.{made-length}
use Rattle.cmb_dump_stream.proofs.buffer.TextBuffer.len.Goals as goal

pub returns : goal.returns
returns c =
    let Adds : TextBuffer → Type 0 = λ s. s.given + c.len.result ≡ length (made_text s.subject s.clock) in
    let adds : c.self.inside.given + c.len.result ≡ length (made_text (subject_of c.self.inside.design.now c.self.inside.shown) c.self.inside.clock) = omega (arith, made-length _ _ _ _ c.self.invariant, c.len.ensures) in
    subst Adds c.self.view_is adds
