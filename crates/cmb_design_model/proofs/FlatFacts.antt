-- The flat list of the delays of all pins.
use Rattle.std.proofs.Common.{◌≡◌, ◌≤◌, ◌<◌, ◌+◌, ◌-◌, ℕ, zero, suc, List, [], ◌∷◌, ◌++◌, length, get_or, refl, sym, ap, arith, ◌∙◌, ⊎_elim, add-one, length-append}
use Rattle.std.proofs.lemmas.Bool.{cases_lt}
use Rattle.std.proofs.lemmas.List.{get_or-append_right}
use Rattle.std.proofs.lemmas.List.FromFn.{get_or-map-range_with_len, length-map-range_with_len}
use Rattle.std.proofs.Math.ListN.{get_or-append}
use Rattle.cmb_netlist.specs.Netlist.{Netlist}
use Rattle.cmb_design_model.specs.Nets.{pins_at}
use Rattle.cmb_design_model.specs.Inner.Tables.{start, starts_of}
use Rattle.cmb_design_model.specs.Timing.{delay_by, flat_delays, net_delays}
use Rattle.cmb_design_model.specs.declared.rows.DelayRow.{DelayRow}
use Rattle.cmb_design_model.proofs.RowFacts.{start_apart}

length-net_delays : (netlist : Netlist) (rows : List DelayRow) (net : ℕ) → length (net_delays netlist rows net) ≡ pins_at netlist net
unfolding net_delays
length-net_delays netlist rows net = length-map-range_with_len (λ k. delay_by netlist rows net (k + 1)) 0 (pins_at netlist net)

net_delays-at : (netlist : Netlist) (rows : List DelayRow) (net k : ℕ) → k < pins_at netlist net → get_or (net_delays netlist rows net) k 0 ≡ delay_by netlist rows net (k + 1)
unfolding net_delays
net_delays-at netlist rows net k h = get_or-map-range_with_len (λ k. delay_by netlist rows net (k + 1)) 0 (pins_at netlist net) k k 0 h (omega arith)

pub length-flat : (netlist : Netlist) (rows : List DelayRow) (n : ℕ) → length (flat_delays netlist rows n) ≡ start netlist n
unfolding flat_delays start
length-flat netlist rows zero = refl
length-flat netlist rows (suc n) = omega (arith, length-append (flat_delays netlist rows n) (net_delays netlist rows n), length-flat netlist rows n, length-net_delays netlist rows n)

pub flat-at : (netlist : Netlist) (rows : List DelayRow) (n net k : ℕ) → net < n → k < pins_at netlist net → get_or (flat_delays netlist rows n) (start netlist net + k) 0 ≡ delay_by netlist rows net (k + 1)
unfolding flat_delays
flat-at netlist rows zero net k h g = absurd (omega arith)
flat-at netlist rows (suc n) net k h g = ⊎_elim
    (λ (l : net < n).
    let s : start netlist net + pins_at netlist net ≤ start netlist n = start_apart netlist net n l in
    get_or-append (flat_delays netlist rows n) (net_delays netlist rows n) 0 (start netlist net + k) (omega (arith, length-flat netlist rows n)) ∙ flat-at netlist rows n net k l g)
    (λ (l : n ≤ net).
    let e : net ≡ n = omega arith in
    let s : start netlist net ≡ start netlist n = ap (start netlist) e in
    let d : start netlist net + k - start netlist n ≡ k = omega arith in
    get_or-append_right (flat_delays netlist rows n) (net_delays netlist rows n) (start netlist n) (start netlist net + k) 0 (length-flat netlist rows n) (omega arith)
    ∙ ap (λ i. get_or (net_delays netlist rows n) i 0) d ∙ ap (λ m. get_or (net_delays netlist rows m) k 0) (sym e) ∙ net_delays-at netlist rows net k g)
    (cases_lt net n)

pub flat-next : (netlist : Netlist) (rows : List DelayRow) (n : ℕ) → flat_delays netlist rows (n + 1) ≡ flat_delays netlist rows n ++ net_delays netlist rows n
unfolding flat_delays
flat-next netlist rows n = rw add-one refl

-- the start of a net's pins, read from the list of starts
pub start-read : (netlist : Netlist) (starts : List ℕ) (net s : ℕ) → starts ≡ starts_of netlist → net < length netlist.names → s ≡ get_or starts net s → s ≡ start netlist net
start-read netlist starts net s h b e = e ∙ ap (λ t. get_or t net s) h ∙ get_or-map-range_with_len (start netlist) 0 (length netlist.names) net net s b (omega arith)

-- the delay of a pin, read from the flat list
pub flat-read : (netlist : Netlist) (rows : List DelayRow) (flat : List ℕ) (net pin s d : ℕ) → flat ≡ flat_delays netlist rows (length netlist.names) → net < length netlist.names → 1 ≤ pin → pin ≤ pins_at netlist net
    → s ≡ start netlist net → d ≡ get_or flat (s + (pin - 1)) d → d ≡ delay_by netlist rows net pin
flat-read netlist rows flat net pin s d f b low high e g =
    let n = length netlist.names in
    let within : s + (pin - 1) < length flat = omega (arith, start_apart netlist net n b, ap length f, length-flat netlist rows n) in
    let k : pin - 1 + 1 ≡ pin = omega arith in
    g ∙ same flat (s + (pin - 1)) d within ∙ ap (λ t. get_or t (s + (pin - 1)) 0) f ∙ ap (λ x. get_or (flat_delays netlist rows n) (x + (pin - 1)) 0) e
    ∙ flat-at netlist rows n net (pin - 1) b (omega arith) ∙ ap (delay_by netlist rows net) k
  where
    same : (xs : List ℕ) (i d : ℕ) → i < length xs → get_or xs i d ≡ get_or xs i 0
    same [] i d h = absurd (omega arith)
    same (x ∷ xs) zero d h = refl
    same (x ∷ xs) (suc i) d h = same xs i d (omega arith)
