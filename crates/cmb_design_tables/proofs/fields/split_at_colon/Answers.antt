use Rattle.std.proofs.Common.{[], arith, length, ◌≡◌, ◌-◌, ◌+◌, take, drop, refl, None}
use Rattle.std.proofs.lemmas.Bool.Decides.{nat_tests}
use Rattle.std.proofs.lemmas.List.{take_all, drop_all, length-drop}
use Rattle.cmb_design_tables.specs.Fields.{split_pin}
use Rattle.cmb_design_tables.proofs.FieldFacts.{split_pin-colon, split_pin-other}
use Rattle.cmb_design_tables.proofs.fields.split_at_colon.Goals as goal

pub loop-i-init : goal.loop-i-init
unfolding split_pin
loop-i-init c = let xs = c.args.field.now in let e : drop (length xs) xs ≡ [] = drop_all (length xs) xs (omega arith) in rw e refl

pub returns-then-field-i-eq58 : goal.returns-then-field-i-eq58
returns-then-field-i-eq58 c =
    let xs = c.args.field.now in
    let i = c.loop-i.i - 1 in
    let n : c.loop-i.i ≡ i + 1 = omega arith in
    let inv : split_pin (drop c.loop-i.i xs) ≡ None = c.loop-i.invariant in
    let rest : take (length xs - (i + 1)) (drop (i + 1) xs) ≡ drop (i + 1) xs = take_all _ _ (omega (arith, length-drop (i + 1) xs)) in
    rw rest (split_pin-colon xs i (omega arith) c.if-field-i-eq58.true (rw n at inv))

pub loop-i-preserved : goal.loop-i-preserved
loop-i-preserved c =
    let xs = c.args.field.now in
    let i = c.loop-i.i - 1 in
    let n : c.loop-i.i ≡ i + 1 = omega arith in
    let inv : split_pin (drop c.loop-i.i xs) ≡ None = c.loop-i.invariant in
    split_pin-other xs i (omega arith) (grind (arith, nat_tests)) (rw n at inv)
