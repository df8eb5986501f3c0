-- At no token of lawful statements does a fault stand.
use Rattle.std.proofs.Common.{◌≡◌, ℕ, ◌≤◌, List, [], ◌∷◌, ◌++◌, Bool, true, false, length, refl, sym, subst, arith, append-nil}
use Rattle.std.specs.Prelude.{Some, None, option_map, find, cond}
use Rattle.std.specs.List.{AllByRecursion}
use Rattle.cmb_netlist.specs.declared.netlist.Cell.{Cell}
use Rattle.cmb_bench.specs.Text.{Lexeme}
use Rattle.cmb_netlist.specs.Kinds.{is_word, cell_of, kind_words}
use Rattle.cmb_bench.specs.Statement.{Statement, input, output, drive, Mention, driven_by}
use Rattle.cmb_bench.specs.Grammar.{IsNew, IsShort, AreShort, HasArity, SpellsOperands, Spells, SpellsAll, IsLawful, AreLawful}
use Rattle.cmb_bench.specs.Meaning.{IsKind}
use Rattle.cmb_bench.specs.FirstFault.{AnyKind, NoneBelow, number_of_fault}
use Rattle.cmb_bench.proofs.Machine.{Place, start, first, keyed, named, equalled, kinded, listing, listed, ended, Stand, go, run, name_check, net_check, verdict}
use Rattle.cmb_bench.proofs.Arity.{takes_more}
use Rattle.cmb_bench.proofs.Again.{not_above, not_reached, input_short, output_short, not_input, word_length}
use Rattle.cmb_bench.proofs.Verdict.{AtMost, stands_verdict}

-- the machine takes these tokens and finds no fault
abbrev pub Clear : List (List ℕ) → Place → List Lexeme → Type 0
Clear names place [] = Unit {0}
Clear names place (t ∷ ts) = (s : Stand) × (go names place t.word ≡ Some s) × (verdict names place t.word ≡ None) × Clear s.names s.place ts

pub ok_name : (n : List ℕ) → IsShort n → name_check n ≡ None
ok_name n h = rw (not_above (length n) 255 h) refl

pub ok_net : (names : List (List ℕ)) (n : List ℕ) → IsNew names n → net_check names n ≡ None
ok_net names n h = rw (h.other, not_reached _ _ h.few) refl

short_found : (k : List ℕ) (entries : List (List ℕ × Cell)) (f : Cell) → AllByRecursion (λ entry. length entry.0 ≤ 255) entries → option_map (λ entry. entry.1) (find (λ entry. is_word k entry.0) entries) ≡ Some f → IsShort k
short_found k [] f fits e = absurd (cc)
short_found k (entry ∷ entries) f fits e = by (is_word k entry.0) refl (short_found k entries f fits.1) e
  where
    by : (b : Bool) → is_word k entry.0 ≡ b → (option_map (λ entry. entry.1) (find (λ entry. is_word k entry.0) entries) ≡ Some f → IsShort k)
        → option_map (λ entry. entry.1) (cond b (Some entry) (find (λ entry. is_word k entry.0) entries)) ≡ Some f → IsShort k
    by true is more e = omega (arith, word_length k entry.0 is, fits.0)
    by false is more e = more e

pub kind_short : (k : List ℕ) (f : Cell) → cell_of k ≡ Some f → IsShort k
unfolding cell_of
kind_short k f e = short_found k kind_words f (omega arith, (omega arith, (omega arith, (omega arith, (omega arith, (omega arith, (omega arith, (omega arith, (omega arith, (omega arith, tt)))))))))) e

-- a property of what is left that a token with no fault carries back
abbrev pub Carries : (List (List ℕ) → Place → List Lexeme → Type 0) → Type 0
Carries Q = (names : List (List ℕ)) (place : Place) (t : Lexeme) (ts : List Lexeme) (s : Stand) → go names place t.word ≡ Some s → verdict names place t.word ≡ None → Q s.names s.place ts → Q names place (t ∷ ts)

operands_clear : (Q : List (List ℕ) → Place → List Lexeme → Type 0) (carry : Carries Q) (f : Cell) (names : List (List ℕ)) (n k : List ℕ) (only : Bool) (ms : List Mention) (ts rest : List Lexeme) → SpellsOperands ms ts rest → (only ≡ true → cell_of k ≡ Some f × HasArity f ms) → AreShort ms → Q (names ++ n ∷ []) start rest → Q names (listing n k only) ts
operands_clear Q carry f names n k only [] ts rest h lawful short more = absurd h
operands_clear Q carry f names n k true (m ∷ []) ts rest h lawful short more =
    subst (Q names (listing n k true)) (sym h.1)
    (carry names (listing n k true) _ _ (record { names = names; place = listed n k true }) refl (ok_name m.name short.0) (carry names (listed n k true) _ _ (record { names = names ++ n ∷ []; place = start }) refl refl more))
operands_clear Q carry f names n k false (m ∷ []) ts rest h lawful short more =
    subst (Q names (listing n k false)) (sym h.1)
    (carry names (listing n k false) _ _ (record { names = names; place = listed n k false }) refl (ok_name m.name short.0) (carry names (listed n k false) _ _ (record { names = names ++ n ∷ []; place = start }) refl refl more))
operands_clear Q carry f names n k true (m ∷ x ∷ ms) ts rest h lawful short more =
    let l = lawful refl in
    subst (Q names (listing n k true)) (sym h.2)
    (carry names (listing n k true) _ _ (record { names = names; place = listed n k true }) refl (ok_name m.name short.0)
    (carry names (listed n k true) _ _ (record { names = names; place = listing n k false }) refl (rw (l.0, takes_more f m x ms l.1) refl)
    (operands_clear Q carry f names n k false (x ∷ ms) h.1 rest h.3 (λ e. absurd (cc)) short.1 more)))
operands_clear Q carry f names n k false (m ∷ x ∷ ms) ts rest h lawful short more =
    subst (Q names (listing n k false)) (sym h.2)
    (carry names (listing n k false) _ _ (record { names = names; place = listed n k false }) refl (ok_name m.name short.0)
    (carry names (listed n k false) _ _ (record { names = names; place = listing n k false }) refl refl
    (operands_clear Q carry f names n k false (x ∷ ms) h.1 rest h.3 (λ e. absurd (cc)) short.1 more)))

pub statement_clear : (Q : List (List ℕ) → Place → List Lexeme → Type 0) (carry : Carries Q) (names : List (List ℕ)) (s : Statement) (ts rest : List Lexeme) → Spells IsKind s ts rest → IsLawful names s → Q (names ++ driven_by s) start rest → Q names start ts
statement_clear Q carry names (input n) ts rest h lawful more =
    subst (Q names start) (sym h.6)
    (carry names start _ _ (record { names = names; place = first h.0 }) refl (ok_name h.0 (input_short h.0 h.5))
    (carry names (first h.0) _ _ (record { names = names; place = keyed true }) (rw h.5 refl) (rw h.5 refl)
    (carry names (keyed true) _ _ (record { names = names; place = named true n }) refl (rw (ok_net names n lawful) (ok_name n lawful.short))
    (carry names (named true n) _ _ (record { names = names ++ n ∷ []; place = start }) refl refl more))))
statement_clear Q carry names (output m) ts rest h lawful more =
    subst (Q names start) (sym h.5)
    (carry names start _ _ (record { names = names; place = first h.0 }) refl (ok_name h.0 (output_short h.0 h.4))
    (carry names (first h.0) _ _ (record { names = names; place = keyed false }) (rw (not_input h.0 h.4, h.4) refl) (rw (not_input h.0 h.4, h.4) refl)
    (carry names (keyed false) _ _ (record { names = names; place = named false m.name }) refl (ok_name m.name lawful)
    (carry names (named false m.name) _ _ (record { names = names; place = start }) refl refl (subst (λ l. Q l start rest) (append-nil names) more)))))
statement_clear Q carry names (drive n f ms) ts rest h lawful more =
    subst (Q names start) (sym h.7)
    (carry names start _ _ (record { names = names; place = first n }) refl (ok_name n lawful.0.short)
    (carry names (first n) _ _ (record { names = names; place = equalled n }) refl (ok_net names n lawful.0)
    (carry names (equalled n) _ _ (record { names = names; place = kinded n h.0 }) refl (rw h.6 (ok_name h.0 (kind_short h.0 f h.6)))
    (carry names (kinded n h.0) _ _ (record { names = names; place = listing n h.0 true }) refl refl (operands_clear Q carry f names n h.0 true ms h.5 rest h.8 (λ e. (h.6, lawful.1)) lawful.2 more)))))

pub all_clear : (names : List (List ℕ)) (ss : List Statement) (ts : List Lexeme) → SpellsAll IsKind ss ts → AreLawful names ss → Clear names start ts
all_clear names [] ts h lawful = subst (Clear names start) (sym h.1) (record { names = names; place = ended }, refl, refl, tt)
all_clear names (s ∷ ss) ts h lawful = statement_clear Clear (λ l p t ts s g v more. (s, g, v, more)) names s ts h.0 h.1 lawful.0 (all_clear (names ++ driven_by s) ss h.0 h.2 lawful.1)

clear_at : (names : List (List ℕ)) (place : Place) (b : List Lexeme) (u : Lexeme) (a : List Lexeme) → Clear names place (b ++ u ∷ a) → (s : Stand) × (run names place b ≡ Some s) × (verdict s.names s.place u.word ≡ None)
unfolding run
clear_at names place [] u a h = (record { names = names; place = place }, refl, h.2)
clear_at names place (x ∷ b) u a h = let inner = clear_at h.0.names h.0.place b u a h.3 in (inner.0, rw h.1 inner.1, inner.2)

pub none_stands : (ss : List Statement) (ts : List Lexeme) → SpellsAll IsKind ss ts → AreLawful [] ss → NoneBelow ts (length ts)
none_stands ss ts spelled lawful = λ before t after kind is below stands.
    let c = clear_at [] start before t after (subst (Clear [] start) is (all_clear [] ss ts spelled lawful)) in
    let found = stands_verdict kind before t c.0 c.1 stands in
    subst (λ o. AtMost o (number_of_fault kind)) c.2 found

weaker : (s : Statement) (ts rest : List Lexeme) → Spells IsKind s ts rest → Spells AnyKind s ts rest
weaker (input n) ts rest h = h
weaker (output m) ts rest h = h
weaker (drive n f ms) ts rest h = (h.0, h.1, h.2, h.3, h.4, h.5, tt, h.7, h.8)

pub all_weaker : (ss : List Statement) (ts : List Lexeme) → SpellsAll IsKind ss ts → SpellsAll AnyKind ss ts
all_weaker [] ts h = h
all_weaker (s ∷ ss) ts h = (h.0, weaker s ts h.0 h.1, all_weaker ss h.0 h.2)
