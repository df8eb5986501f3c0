-- Beginnings of a text, and sinks that took one.
use Rattle.std.proofs.Common.{◌≡◌, ◌⊎◌, inl, inr, ◌∙◌, ℕ, ◌+◌, ◌<◌, ◌≤◌, List, [], ◌++◌, Option, length, take, refl, ap, sym, subst, length-append, arith}
use Rattle.std.specs.Io.KnownBytes.{Appends}
use Rattle.std.proofs.KnownBytes.{Appends-nil, Appends-trans}
use Rattle.std.proofs.lemmas.Bool.{cases_lt}
use Rattle.std.proofs.lemmas.List.{append-nil, take-append-le}
use Rattle.std.proofs.Math.Seq.{take-append-add}
use Rattle.cmb_wave.specs.declared.level.Level.{Level}
use Rattle.cmb_design_model.specs.Design.{Design}
use Rattle.cmb_design_model.specs.Value.{value}
use Rattle.cmb_run_text.specs.Beginnings.{HasBegun, IsCutOff}
use Rattle.cmb_run_text.specs.Vcd.{part_text, text_of, vcd}
use Rattle.cmb_run_text.proofs.Texts.{part_text-grows}

-- the text up to a tick begins the whole
pub part_text-begins : (names : List (List ℕ)) (horizon : ℕ) (level : ℕ → ℕ → Level) (upto : ℕ) → upto ≤ horizon → (rest : List ℕ) × (text_of names horizon level ≡ part_text names horizon level upto ++ rest)
part_text-begins names horizon level upto within = by (cases_lt upto horizon)
  where
    by : (upto < horizon) ⊎ (horizon ≤ upto) → (rest : List ℕ) × (text_of names horizon level ≡ part_text names horizon level upto ++ rest)
    by (inl below) = part_text-grows names horizon level upto horizon within below
    by (inr ended) =
        let same : upto ≡ horizon = omega arith in
        ([], rw same (sym (append-nil (part_text names horizon level horizon))))

pub part_text-whole : (names : List (List ℕ)) (horizon : ℕ) (level : ℕ → ℕ → Level) (upto : ℕ) → upto ≡ horizon → part_text names horizon level upto ≡ text_of names horizon level
part_text-whole names horizon level upto e = rw e refl

-- the same of a design
pub vcd-begins : (design : Design) (upto : ℕ) → upto ≤ design.horizon → (rest : List ℕ) × (vcd design ≡ part_text design.netlist.names design.horizon (value design) upto ++ rest)
unfolding vcd
vcd-begins design upto within = part_text-begins design.netlist.names design.horizon (value design) upto within

pub vcd-whole : (design : Design) (upto : ℕ) → upto ≡ design.horizon → part_text design.netlist.names design.horizon (value design) upto ≡ vcd design
unfolding vcd
vcd-whole design upto e = part_text-whole design.netlist.names design.horizon (value design) upto e

take-past : (front part rest : List ℕ) (n : ℕ) → n ≤ length part → take (length front + n) (front ++ (part ++ rest)) ≡ front ++ take n part
take-past front part rest n h = take-append-add front (part ++ rest) n ∙ ap (λ l. front ++ l) (take-append-le n part rest h)

pub HasBegun-none : (text : List ℕ) (old : Option (List ℕ)) → HasBegun text old old
HasBegun-none text old = (0, Appends-nil old)

-- a sink that took what the text begins with
pub HasBegun-front : (text front rest : List ℕ) (old new : Option (List ℕ)) → text ≡ front ++ rest → Appends old new front → HasBegun text old new
HasBegun-front text front rest old new whole h =
    let same : take (length front + 0) text ≡ front = ap (take (length front + 0)) whole ∙ take-past front [] rest 0 (omega arith) ∙ append-nil front in
    (length front + 0, subst (Appends old new) (sym same) h)

-- a sink that took what the text begins with, and then failed in the next part
pub IsCutOff-front : (text front part rest : List ℕ) (start old new : Option (List ℕ)) (before later given n : ℕ)
    → text ≡ front ++ (part ++ rest) → given ≡ length front → n < length part
    → Appends start old front → Appends old new (take n part) → later ≡ before + 1 → IsCutOff text start new before later (given + n)
IsCutOff-front text front part rest start old new before later given n whole count short a b failed =
    let same : take (given + n) text ≡ front ++ take n part = ap (take (given + n)) whole ∙ ap (λ k. take (k + n) (front ++ (part ++ rest))) count ∙ take-past front part rest n (omega arith) in
    let long : length text ≡ length front + (length part + length rest) = ap length whole ∙ length-append front (part ++ rest) ∙ ap (λ k. length front + k) (length-append part rest) in
    record {
      short = omega arith;
      begun = subst (Appends start new) (sym same) (Appends-trans start old new front (take n part) a b);
      failed = failed;
    }
