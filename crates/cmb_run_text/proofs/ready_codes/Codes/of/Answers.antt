use Rattle.std.proofs.Common.{◌≡◌, ◌<◌, ◌∙◌, ap, arith, get_or, length}
use Rattle.std.proofs.lemmas.List.{get_or_default}
use Rattle.cmb_run_text.specs.declared.ready_codes.Code.TheVariants.{One}
use Rattle.cmb_run_text.specs.ReadyCodes.{code_bytes}
use Rattle.cmb_run_text.proofs.ready_codes.Codes.of.Goals as goal

pub returns : goal.returns
returns c =
    let codes = c.self.inside.codes.items in
    let net = c.args.net in
    let within : net < length codes = omega (arith, c.if-place-len.false, c.len.ensures, c.self.inside.codes.ok) in
    let here : c.index.result.now ≡ get_or codes net (One 0) = c.index.ensures ∙ get_or_default codes net c.index.result.now (One 0) within in
    ap code_bytes here ∙ c.self.invariant net within
