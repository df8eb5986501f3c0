use Rattle.std.proofs.Common.{◌≡◌, ◌∙◌, sym, ap, arith, drop, length}
use Rattle.cmb_wave.specs.declared.level.Change.{Change}
use Rattle.cmb_wave.specs.declared.level.Level.TheVariants as level
use Rattle.cmb_wave.specs.Waveform.{below}
use Rattle.std.proofs.lemmas.List.{take_rest}
use Rattle.cmb_run_text.proofs.TraceFacts.{none_left_from}
use Rattle.cmb_run_text.proofs.value_changes.rest_from.Goals as goal

pub returns-in-len1-up : goal.returns-in-len1-up
returns-in-len1-up c =
    let cs = c.args.changes.now in
    let d : Change = record { tick = 0; level = level.Zero } in
    let all : below c.args.tick cs ≡ length cs = none_left_from 0 c.args.tick cs d c.requires (omega (arith, c.in-len1-up.len_at_least)) c.if-last-tick.true in
    take_rest cs (length cs) ∙ ap (λ n. drop n cs) (sym all)
