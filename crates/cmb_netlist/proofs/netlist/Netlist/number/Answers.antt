use Rattle.std.proofs.Common.{◌≡◌, ◌<◌, ◌≤◌, ℕ, List, ◌∙◌, ap, sym, subst, arith, length}
use Rattle.std.specs.Prelude.{Option, Some, None, MatchOption}
use Rattle.cmb_netlist.specs.Netlist.{Netlist, number_of}
use Rattle.cmb_netlist.proofs.Names.{number_name}
use Rattle.cmb_netlist.proofs.netlist.Netlist.number.Goals as goal

bounded : (netlist : Netlist) (name : List ℕ) (r : Option ℕ) → r ≡ number_of netlist name → length netlist.names ≤ 65535 → MatchOption r (Unit {0}) (λ net. (net < length netlist.names) × (net < 65535))
bounded netlist name None e h = tt
bounded netlist name (Some k) e h = let b : k < length netlist.names = (number_name netlist name k (sym e)).0 in (b, omega arith)

pub returns-clause-value : goal.returns-clause-value
unfolding number_of
returns-clause-value c = c.get_index_of.ensures.index ∙ ap (λ n. number_of n c.args.name.now) c.self.view_is

pub returns-clause-below : goal.returns-clause-below
unfolding number_of
returns-clause-below c =
    let e = c.get_index_of.ensures.index ∙ ap (λ n. number_of n c.args.name.now) c.self.view_is in
    bounded c.args.self.now c.args.name.now c.get_index_of.result e (subst (λ n. length n.names ≤ 65535) c.self.view_is c.self.invariant.few)
