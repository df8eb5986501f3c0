use Rattle.std.proofs.Common.{◌≡◌, ◌<◌, ◌-◌, get_or, length, subst, sym, arith}
use Rattle.std.proofs.lemmas.Bool.Decides.{nat_tests}
use Rattle.std.proofs.lemmas.Option.{get_or_from_slice_get, slice_get_within}
use Rattle.cmb_wave.specs.declared.level.Change.{Change}
use Rattle.cmb_design_model.proofs.ToldFacts.{below_last}
use Rattle.cmb_design_model.proofs.row_levels.is_behind.Goals as goal

pub returns-in-Some : goal.returns-in-Some
returns-in-Some c = λ less.
    let changes = c.args.changes.now in
    let last : Change = c.in-Some.last.now in
    let found = sym c.in-Some.ensures.value in
    let within = slice_get_within changes (length changes - 1) last found in
    let is : get_or changes (length changes - 1) last ≡ last = get_or_from_slice_get changes (length changes - 1) last last found in
    let lower : last.tick < c.args.tick = grind (arith, nat_tests) in
    let P : Change → Type 0 = λ r. r.tick < c.args.tick in
    below_last 0 changes (length changes - 1) c.args.tick last c.requires.rises (omega (arith, within)) (subst P (sym is) lower)
