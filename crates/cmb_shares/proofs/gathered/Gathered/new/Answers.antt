use Rattle.std.proofs.Common.{◌≡◌, ◌+◌, ◌/◌, ◌∙◌, length, replicate, ap, rules, arith}
use Rattle.std.proofs.lemmas.List.{length-replicate}
use Rattle.cmb_shares.proofs.GatherFacts.{blank, blank-table}
use Rattle.cmb_shares.proofs.gathered.Gathered.new.Goals as goal

pub invariant_of-result : goal.invariant_of-result
invariant_of-result c =
    let nets = c.args.nets in
    let items : c.in_ok-vec-2.field-0.items ≡ replicate (nets / 64 + 1) 0 = search rules in
    let len : length c.in_ok-vec.field-0.items ≡ nets = search rules in
    let long : length c.in_ok-vec-2.field-0.items ≡ nets / 64 + 1 = ap length items ∙ length-replicate (nets / 64 + 1) 0 in
    blank-table c.in_ok-vec.field-0.items c.in_ok-vec-2.field-0.items (omega (arith, len, c.requires)) (omega (arith, len, long))
    (blank c.in_ok-vec.field-0.items c.in_ok-vec-2.field-0.items (length c.in_ok-vec.field-0.items) (nets / 64 + 1) (λ i. length c.in_ok-vec.field-0.items) items)

pub returns : goal.returns
returns c =
    let nets = c.args.nets in
    let items : c.in_ok-vec-2.field-0.items ≡ replicate (nets / 64 + 1) 0 = search rules in
    let len : length c.in_ok-vec.field-0.items ≡ nets = search rules in
    blank c.in_ok-vec.field-0.items c.in_ok-vec-2.field-0.items nets (nets / 64 + 1) len items
