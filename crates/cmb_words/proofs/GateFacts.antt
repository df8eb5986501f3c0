-- What a gate makes of one operand, and of two by masks.
use Rattle.std.proofs.Common.{◌≡◌, [], ◌∷◌, refl, if◌then◌else◌, ap, ap₂, ◌∙◌, ℕ, ◌+◌, ◌<◌, Bool, true, false, true≢false, sym}
use Rattle.cmb_wave.specs.declared.level.Level.{Level}
use Rattle.cmb_wave.specs.declared.level.Level.TheVariants.{Zero, One, X}
use Rattle.cmb_netlist.specs.declared.netlist.Kind.{Kind}
use Rattle.cmb_netlist.specs.declared.netlist.Kind.TheVariants.{And, Nand, Or, Nor, Xor, Xnor, Not, Buff}
use Rattle.cmb_design_model.specs.Gate.{gate, conjunction, disjunction, parity, inverse_of}
use Rattle.cmb_words.specs.Joint.{joint}
use Rattle.cmb_words.specs.Inner.Masked.{inverse_if, inverts_operands, ignores_second, is_parity, inverts_result}
use Rattle.std.specs.Int.{bit_at}
use Rattle.std.proofs.lemmas.Nat.Bits.{bit_at-zero, bit_at-lt}
use Rattle.cmb_words.specs.Bits.{level_of_bits, level_in}
use Rattle.cmb_words.proofs.LevelFacts.{by_bits, by_bit}

-- ---- one operand: what a gate makes of it, before it inverts, is its level

and_single : (a : Level) → a ≡ conjunction (a ∷ [])
and_single Zero = refl
and_single One = refl
and_single X = refl

or_single : (a : Level) → a ≡ disjunction (a ∷ [])
or_single Zero = refl
or_single One = refl
or_single X = refl

xor_single : (a : Level) → a ≡ parity (a ∷ [])
xor_single Zero = refl
xor_single One = refl
xor_single X = refl

pub joint-first : (kind : Kind) (a : Level) → a ≡ joint kind (a ∷ [])
joint-first And a = and_single a
joint-first Nand a = and_single a
joint-first Or a = or_single a
joint-first Nor a = or_single a
joint-first Xor a = xor_single a
joint-first Xnor a = xor_single a
joint-first Not a = refl
joint-first Buff a = refl

-- ---- two operands

-- De Morgan's law
morgan : (a b : Level) → conjunction (inverse_of a ∷ inverse_of b ∷ []) ≡ inverse_of (disjunction (a ∷ b ∷ []))
morgan Zero Zero = refl
morgan Zero One = refl
morgan Zero X = refl
morgan One Zero = refl
morgan One One = refl
morgan One X = refl
morgan X Zero = refl
morgan X One = refl
morgan X X = refl

inverse_twice : (a : Level) → inverse_of (inverse_of a) ≡ a
inverse_twice Zero = refl
inverse_twice One = refl
inverse_twice X = refl

and_with-one : (a : Level) → conjunction (a ∷ One ∷ []) ≡ a
and_with-one Zero = refl
and_with-one One = refl
and_with-one X = refl

made : (kind : Kind) (a b : Level)
    → inverse_if (inverts_result kind)
    (if is_parity kind then parity (a ∷ b ∷ [])
    else conjunction (inverse_if (inverts_operands kind) a ∷ (if ignores_second kind then One else inverse_if (inverts_operands kind) b) ∷ []))
    ≡ gate kind (a ∷ b ∷ [])
made And a b = refl
made Nand a b = refl
made Or a b = ap inverse_of (morgan a b) ∙ inverse_twice (disjunction (a ∷ b ∷ []))
made Nor a b = morgan a b
made Xor a b = refl
made Xnor a b = refl
made Not a b = ap inverse_of (and_with-one a)
made Buff a b = and_with-one a

pub gate-made : (kind : Kind) (a b first inverted other joined odd chosen level : Level)
    → first ≡ inverse_if (inverts_operands kind) a
    → inverted ≡ inverse_if (inverts_operands kind) b
    → other ≡ (if ignores_second kind then One else inverted)
    → joined ≡ conjunction (first ∷ other ∷ [])
    → odd ≡ parity (a ∷ b ∷ [])
    → chosen ≡ (if is_parity kind then odd else joined)
    → level ≡ inverse_if (inverts_result kind) chosen
    → level ≡ gate kind (a ∷ b ∷ [])
gate-made kind a b first inverted other joined odd chosen level e f g h j k l =
    l ∙ ap (inverse_if (inverts_result kind))
    (k ∙ ap₂ (λ x y. if is_parity kind then x else y) j
    (h ∙ ap₂ (λ x y. conjunction (x ∷ y ∷ [])) e (g ∙ ap (λ x. if ignores_second kind then One else x) f)))
    ∙ made kind a b

-- ---- operands that are known

-- whether a level is 0 or 1
abbrev pub is_known : Level → Bool
is_known X = false
is_known _ = true

by_known : (P : Level → Level → Type 0) → P Zero Zero → P Zero One → P One Zero → P One One
    → (a b : Level) → is_known a ≡ true → is_known b ≡ true → P a b
by_known P e f g h Zero Zero j k = e
by_known P e f g h Zero One j k = f
by_known P e f g h Zero X j k = absurd (true≢false (sym k))
by_known P e f g h One Zero j k = g
by_known P e f g h One One j k = h
by_known P e f g h One X j k = absurd (true≢false (sym k))
by_known P e f g h X b j k = absurd (true≢false (sym j))

pub gate-known : (kind : Kind) (a b : Level) → is_known a ≡ true → is_known b ≡ true → is_known (gate kind (a ∷ b ∷ [])) ≡ true
gate-known And = by_known (λ a b. is_known (gate And (a ∷ b ∷ [])) ≡ true) refl refl refl refl
gate-known Nand = by_known (λ a b. is_known (gate Nand (a ∷ b ∷ [])) ≡ true) refl refl refl refl
gate-known Or = by_known (λ a b. is_known (gate Or (a ∷ b ∷ [])) ≡ true) refl refl refl refl
gate-known Nor = by_known (λ a b. is_known (gate Nor (a ∷ b ∷ [])) ≡ true) refl refl refl refl
gate-known Xor = by_known (λ a b. is_known (gate Xor (a ∷ b ∷ [])) ≡ true) refl refl refl refl
gate-known Xnor = by_known (λ a b. is_known (gate Xnor (a ∷ b ∷ [])) ≡ true) refl refl refl refl
gate-known Not = by_known (λ a b. is_known (gate Not (a ∷ b ∷ [])) ≡ true) refl refl refl refl
gate-known Buff = by_known (λ a b. is_known (gate Buff (a ∷ b ∷ [])) ≡ true) refl refl refl refl

known_plane : (p q : ℕ) → p + q < 2 → is_known (level_of_bits p q) ≡ true → level_of_bits p 0 ≡ level_of_bits p q
known_plane =
    by_bits (λ p q. is_known (level_of_bits p q) ≡ true → level_of_bits p 0 ≡ level_of_bits p q)
    (λ h. refl) (λ h. refl) (λ h. absurd (true≢false (sym h)))

-- a known level is told by its first plane
pub level-known : (v x i : ℕ) → bit_at v i + bit_at x i < 2 → is_known (level_in v x i) ≡ true → level_in v 0 i ≡ level_in v x i
unfolding level_in
level-known v x i apart known = rw bit_at-zero (known_plane (bit_at v i) (bit_at x i) apart known)

pub known-level : (v i : ℕ) → is_known (level_in v 0 i) ≡ true
unfolding level_in
known-level v i = rw bit_at-zero (by_bit (λ k. is_known (level_of_bits k 0) ≡ true) refl refl (bit_at v i) (bit_at-lt v i))
