use Rattle.std.proofs.Common.{◌∙◌, sym, arith}
use Rattle.std.proofs.lemmas.List.{take_all}
use Rattle.std.specs.Cmp.Lexicographic.{bytes_decides}
use Rattle.cmb_netlist.proofs.name.are_same.Goals as goal

pub returns : goal.returns
returns c =
    let a = c.args.a.now in
    let b = c.args.b.now in
    let all_of_a = take_all c.loop-i.i a (omega (arith, c.loop-i-test.false)) in
    let all_of_b = take_all c.loop-i.i b (omega (arith, c.loop-i-test.false, c.loop-i.invariant.0)) in
    sym ((bytes_decides a b).1 (sym all_of_a ∙ c.loop-i.invariant.1 ∙ all_of_b))
