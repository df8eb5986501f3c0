use Rattle.std.proofs.Common.{true, false, [], ◌∷◌, ◌++◌, ap, ◌∙◌, replicate}
use Rattle.cmb_graph_partition.proofs.WholeFacts.{whole_is_partition}
use Rattle.cmb_graph_partition.proofs.shares.whole_partition.Goals as goal

-- src/shares.rt
pub returns-clause-partition : goal.returns-clause-partition
returns-clause-partition c =
    whole_is_partition c.args.netlist.now (record { owners = c.in_ok-owners.owners; crossing = c.in_ok-crossing.crossing; shares = c.push.new.self })
    (record { driven = c.in_ok-driven.driven }) c.len-nets.ensures.sound
    (c.in_ok-owners.ensures.items_if_clones_equal (λ y same. same) ∙ ap (λ n. replicate n 0) c.len-nets.ensures.value)
    (c.in_ok-crossing.ensures.items_if_clones_equal (λ y same. same) ∙ ap (λ n. replicate n false) c.len-nets.ensures.value)
    (c.in_ok-driven.ensures.items_if_clones_equal (λ y same. same) ∙ ap (λ n. replicate n true) c.len-nets.ensures.value)
    (c.in_ok-push.ensures.items ∙ ap (λ xs. xs ++ record { driven = c.in_ok-driven.driven } ∷ []) c.new-shares.ensures.items)
