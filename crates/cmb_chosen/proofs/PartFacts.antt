-- The part of a design in which chosen nets have the text that they have in the whole.
use Rattle.std.proofs.Common.{◌≡◌, ◌∙◌, ℕ, ◌<◌, ◌≤◌, List, [], length, map, get_or, ap, arith, sym}
use Rattle.std.specs.Prelude.{All}
use Rattle.std.specs.List.Sorted.{IsStrictlyIncreasing}
use Rattle.std.proofs.lemmas.List.{get_or-map, length-map}
use Rattle.std.proofs.lemmas.List.Elements.{All-weaker}
use Rattle.cmb_netlist.specs.Netlist.{name_of}
use Rattle.cmb_design_model.specs.Design.{Design}
use Rattle.cmb_design_model.specs.Exact.{nets_of}
use Rattle.cmb_design_model.specs.Value.{value}
use Rattle.cmb_dump.specs.Shown.{AreAmong}
use Rattle.cmb_cone.specs.Restriction.{IsRestriction}
use Rattle.cmb_activity.specs.Texts.{activity_table}
use Rattle.cmb_activity.proofs.PartFacts.{activity_table-part}
use Rattle.cmb_run_text.specs.Chosen.{vcd_of}
use Rattle.cmb_run_text.proofs.ChosenFacts.{vcd_of-part}

part-names : (design part : Design) (nets : List ℕ) → IsRestriction design nets part
    → (net : ℕ) → net < length nets → name_of part.netlist net ≡ name_of design.netlist (get_or nets net 0)
part-names design part nets is net h = ap (λ names. get_or names net []) is.netlist.names ∙ get_or-map (name_of design.netlist) nets net 0 [] h

pub part-text : (design part : Design) (nets chosen places : List ℕ) → IsRestriction design nets part
    → ((i tick : ℕ) → i < length nets → value part i tick ≡ value design (get_or nets i 0) tick)
    → All (λ place. place < length nets) places → map (λ place. get_or nets place 0) places ≡ chosen → vcd_of part places ≡ vcd_of design chosen
part-text design part nets chosen places is values within same =
    vcd_of-part design part nets places is.horizon (part-names design part nets is) values within
    ∙ ap (vcd_of design) same

pub part-table : (design part : Design) (nets chosen places : List ℕ) → IsRestriction design nets part
    → ((i tick : ℕ) → i < length nets → value part i tick ≡ value design (get_or nets i 0) tick)
    → All (λ place. place < length nets) places → map (λ place. get_or nets place 0) places ≡ chosen → activity_table part places ≡ activity_table design chosen
part-table design part nets chosen places is values within same =
    activity_table-part design part nets places is.horizon (part-names design part nets is) values within
    ∙ ap (activity_table design) same

-- each has the level that it has in the whole
pub part-levels : (design part : Design) (nets chosen places : List ℕ) → ((i tick : ℕ) → i < length nets → value part i tick ≡ value design (get_or nets i 0) tick)
    → All (λ place. place < length nets) places → map (λ place. get_or nets place 0) places ≡ chosen → length places ≡ length chosen
    → (i tick : ℕ) → i < length chosen → value part (get_or places i 0) tick ≡ value design (get_or chosen i 0) tick
part-levels design part nets chosen places values within same count i tick below =
    let inside : i < length places = omega (arith, below, count) in
    values (get_or places i 0) tick (within i 0 inside)
    ∙ ap (λ (net : ℕ). value design net tick) (sym (ap (λ (list : List ℕ). get_or list i 0) (sym same) ∙ get_or-map (λ place. get_or nets place 0) places i 0 0 inside))

-- the chosen nets are nets of the part
pub part-within : (design part : Design) (nets read places : List ℕ) → IsRestriction design nets part → read ≡ nets → All (λ place. place < length read) places → All (λ net. net < nets_of part) places
part-within design part nets read places is same within =
    let long : length part.netlist.names ≡ length nets = ap length is.netlist.names ∙ length-map nets (name_of design.netlist) in
    let same : length read ≡ length nets = ap length same in
    All-weaker (λ place. place < length read) (λ place. place < length part.netlist.names) (λ place h. omega (arith, long, same)) places within

pub part-among : (design part : Design) (nets read places : List ℕ) → IsRestriction design nets part → read ≡ nets → IsStrictlyIncreasing places → All (λ place. place < length read) places → length places ≤ 65535
    → AreAmong (nets_of part) places
part-among design part nets read places is same rising within few = record {
  rising = rising;
  within = part-within design part nets read places is same within;
  few = few;
}
