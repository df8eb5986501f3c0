-- A read of a record takes the first of those that are left, and leaves the others.

use Rattle.std.proofs.Common.{◌≡◌, ◌≤◌, ◌<◌, ◌+◌, ◌-◌, ℕ, zero, suc, List, [], ◌∷◌, ◌++◌, length, Option, Some, None, true, false, Bool, refl, sym, ap, arith, ◌∙◌, MatchBool, cond, inl}
use Rattle.std.specs.Prelude.{◌==◌}
use Rattle.std.proofs.lemmas.Bool.{false≢true}
use denote.Ref.{Bor}
use Rattle.csv.specs.Machine.{Read, ends_at_end, field_after, fields_after, is_end, next_record, step}
use Rattle.csv.specs.Reading.{is_bom, strip_bom, NextIs, ReadRecord, ReadsNext, default_config, is_flexible, pending_of, records_from, records_next, took_first}
use Rattle.csv.specs.declared.parser.State.{State}
use Rattle.csv.specs.declared.parser.State.TheVariants as st
use Rattle.csv.specs.declared.parser.Action.{Action}
use Rattle.csv.specs.declared.parser.Action.TheVariants as act
use Rattle.csv.specs.declared.reader.Reader.{Reader}
use Rattle.cmb_design_tables.specs.Records.{IsReading, records_of, records_at, records_left, unread}

-- the tests of one byte of a field, and of one at a record's start
in_field_end : (delimiter end return : Bool) → (let r : State × Action = cond delimiter (st.StartField, act.EndField) (cond end (cond return st.AfterCr st.StartRecord, act.EndRecord) (st.InField, act.Copy)) in is_end r.1 ≡ true → ends_at_end r.0 ≡ false)
in_field_end true end return h = absurd (false≢true h)
in_field_end false true true h = refl
in_field_end false true false h = refl
in_field_end false false return h = absurd (false≢true h)

field_start_end : (quote delimiter end return : Bool) → (let r : State × Action = cond quote (st.InQuoted, act.Skip) (cond delimiter (st.StartField, act.EndField) (cond end (cond return st.AfterCr st.StartRecord, act.EndRecord) (st.InField, act.Copy))) in is_end r.1 ≡ true → ends_at_end r.0 ≡ false)
field_start_end true delimiter end return h = absurd (false≢true h)
field_start_end false delimiter end return h = in_field_end delimiter end return h

record_start_end : (over quote delimiter end return : Bool) → (let r : State × Action = cond over (st.StartRecord, act.Skip) (cond quote (st.InQuoted, act.Skip) (cond delimiter (st.StartField, act.EndField) (cond end (cond return st.AfterCr st.StartRecord, act.EndRecord) (st.InField, act.Copy)))) in is_end r.1 ≡ true → ends_at_end r.0 ≡ false)
record_start_end true quote delimiter end return h = absurd (false≢true h)
record_start_end false quote delimiter end return h = field_start_end quote delimiter end return h

-- after the end of a record the machine stands between two records
end_between : (s : State) (c : ℕ) → is_end (step default_config s c).1 ≡ true → ends_at_end (step default_config s c).0 ≡ false
end_between st.StartRecord c h = record_start_end _ (c == 34) (c == 44) _ (c == 13) h
end_between st.StartField c h = field_start_end (c == 34) (c == 44) _ (c == 13) h
end_between st.InField c h = in_field_end (c == 44) _ (c == 13) h
end_between st.InQuoted c h = by (c == 34) h
  where
    by : (b : Bool) → (let r : State × Action = cond b (st.AfterQuote, act.Skip) (st.InQuoted, act.Copy) in is_end r.1 ≡ true → ends_at_end r.0 ≡ false)
    by true h = absurd (false≢true h)
    by false h = absurd (false≢true h)
end_between st.InEscape c h = absurd (false≢true h)
end_between st.AfterQuote c h = by (c == 34) (c == 44) _ (c == 13) h
  where
    by : (quote delimiter end return : Bool) → (let r : State × Action = cond quote (st.InQuoted, act.Copy) (cond delimiter (st.StartField, act.EndField) (cond end (cond return st.AfterCr st.StartRecord, act.EndRecord) (st.InField, act.Copy))) in is_end r.1 ≡ true → ends_at_end r.0 ≡ false)
    by true delimiter end return h = absurd (false≢true h)
    by false delimiter end return h = in_field_end delimiter end return h
end_between st.InComment c h = by (c == 10) h
  where
    by : (b : Bool) → (let r : State × Action = cond b (st.StartRecord, act.Skip) (st.InComment, act.Skip) in is_end r.1 ≡ true → ends_at_end r.0 ≡ false)
    by true h = absurd (false≢true h)
    by false h = absurd (false≢true h)
end_between st.AfterCr c h = by (c == 10) _ (c == 34) (c == 44) _ (c == 13) h
  where
    by : (feed over quote delimiter end return : Bool) → (let r : State × Action = cond feed (st.StartRecord, act.Skip) (cond over (st.StartRecord, act.Skip) (cond quote (st.InQuoted, act.Skip) (cond delimiter (st.StartField, act.EndField) (cond end (cond return st.AfterCr st.StartRecord, act.EndRecord) (st.InField, act.Copy))))) in is_end r.1 ≡ true → ends_at_end r.0 ≡ false)
    by true over quote delimiter end return h = absurd (false≢true h)
    by false over quote delimiter end return h = record_start_end over quote delimiter end return h

-- a record that was read leaves the machine between two records, and a shorter text
abbrev Leaves : Read → ℕ → Type 0
Leaves p n = (ends_at_end p.1 ≡ false) × (length p.2 ≤ n - 1)

next_leaves : (s : State) (fields : List (List ℕ)) (field xs : List ℕ) (p : Read) → next_record default_config s fields field xs ≡ Some p → Leaves p (length xs)
unfolding next_record
next_leaves s fields field [] p h = by (ends_at_end s) h
  where
    by : (b : Bool) → cond b (Some (fields ++ (field ∷ []), st.StartRecord, [])) None ≡ Some p → Leaves p 0
    by true e = let q : (fields ++ (field ∷ []), st.StartRecord, []) ≡ p = cc in rw (← q) (refl, omega arith)
    by false e = cc e
next_leaves s fields field (c ∷ rest) p h = by (is_end (step default_config s c).1) refl h (next_leaves (step default_config s c).0 _ _ rest p)
  where
    by : (b : Bool) → is_end (step default_config s c).1 ≡ b
        → cond b (Some (fields_after (step default_config s c).1 fields field, (step default_config s c).0, rest)) (next_record default_config (step default_config s c).0 (fields_after (step default_config s c).1 fields field) (field_after (step default_config s c).1 c field) rest) ≡ Some p
        → (next_record default_config (step default_config s c).0 (fields_after (step default_config s c).1 fields field) (field_after (step default_config s c).1 c field) rest ≡ Some p → Leaves p (length rest))
        → Leaves p (length (c ∷ rest))
    by true b e more = let q : (fields_after (step default_config s c).1 fields field, (step default_config s c).0, rest) ≡ p = cc in rw (← q) (end_between s c b, omega arith)
    by false b e more = let m = more e in (m.0, omega arith)

-- between two records a read takes a part of the text
next_shorter : (s : State) (xs : List ℕ) (p : Read) → ends_at_end s ≡ false → next_record default_config s [] [] xs ≡ Some p → (ends_at_end p.1 ≡ false) × (length p.2 < length xs)
unfolding next_record
next_shorter s [] p b h = let e : cond (ends_at_end s) (Some (([] ++ ([] ∷ [])), st.StartRecord, [])) None ≡ Some p = h in cc (rw b at e)
next_shorter s (c ∷ rest) p b h = let m = next_leaves s [] [] (c ∷ rest) p h in (m.0, omega arith)

-- how many records are asked for makes no difference, from the text's length on
records_fuel : (n m : ℕ) (s : State) (xs : List ℕ) → ends_at_end s ≡ false → length xs < n → length xs < m → records_from default_config n s xs ≡ records_from default_config m s xs
unfolding records_from
records_fuel zero m s xs b h k = absurd (omega arith)
records_fuel (suc n) zero s xs b h k = absurd (omega arith)
records_fuel (suc n) (suc m) s xs b h k = by (next_record default_config s [] [] xs) refl (records_fuel n m)
  where
    by : (o : Option Read) → next_record default_config s [] [] xs ≡ o
        → ((t : State) (ys : List ℕ) → ends_at_end t ≡ false → length ys < n → length ys < m → records_from default_config n t ys ≡ records_from default_config m t ys)
        → records_next (records_from default_config n) o ≡ records_next (records_from default_config m) o
    by None e more = refl
    by (Some p) e more =
        let q = next_shorter s xs p b e in
        let left : length p.2 < length xs = q.1 in
        ap (λ (rest : List (List (List ℕ))). p.0 ∷ rest) (more p.1 p.2 q.0 (omega arith) (omega arith))

-- the records from a state, by the first of them
records_some : (s : State) (xs : List ℕ) (p : Read) → ends_at_end s ≡ false → next_record default_config s [] [] xs ≡ Some p
    → records_at s (Some xs) ≡ p.0 ∷ records_at p.1 (Some p.2)
unfolding records_from
records_some s xs p b e =
    let q = next_shorter s xs p b e in
    let left : length p.2 < length xs = q.1 in
    let n : length xs + 1 ≡ suc (length xs) = omega arith in
    rw (n, e) (ap (λ (rest : List (List (List ℕ))). p.0 ∷ rest) (records_fuel (length xs) (length p.2 + 1) p.1 p.2 q.0 left (omega arith)))

records_none : (s : State) (xs : List ℕ) → next_record default_config s [] [] xs ≡ None → records_at s (Some xs) ≡ []
unfolding records_from
records_none s xs e =
    let n : length xs + 1 ≡ suc (length xs) = omega arith in
    rw (n, e) refl

-- what one read says, by the bytes before it and after it
abbrev Takes : State → List ℕ → Bool → List (List ℕ) → State → Option (List ℕ) → Type 0
Takes s xs found fields t after = MatchBool found
    ((ys : List ℕ) × (after ≡ Some ys) × (ends_at_end t ≡ false) × (records_at s (Some xs) ≡ fields ∷ records_at t after))
    (records_at s (Some xs) ≡ [])

takes_next : (s t : State) (xs ys : List ℕ) (found : Bool) (fields : List (List ℕ)) (o : Option Read) → ends_at_end s ≡ false → next_record default_config s [] [] xs ≡ o
    → NextIs o found fields t ys → Takes s xs found fields t (Some ys)
takes_next s t xs ys true fields None b e h = absurd (false≢true (sym h))
takes_next s t xs ys false fields None b e h = records_none s xs e
takes_next s t xs ys true fields (Some p) b e h =
    let q = next_shorter s xs p b e in
    (ys, refl, rw h.2 q.0, rw (h.1, h.2, h.3) (records_some s xs p b e))
takes_next s t xs ys false fields (Some p) b e h = absurd (false≢true h.0)

takes : (s t : State) (xs : List ℕ) (after : Option (List ℕ)) (found : Bool) (fields : List (List ℕ)) → ends_at_end s ≡ false
    → ReadsNext default_config s (Some xs) after found fields t → Takes s xs found fields t after
takes s t xs None found fields b h = absurd h
takes s t xs (Some ys) found fields b h = takes_next s t xs ys found fields (next_record default_config s [] [] xs) b refl h

-- what a read of a record does to a reader between two records
pub record_read : (r next : Reader (Bor (List ℕ))) (found : Bool) (fields : List (List ℕ)) → IsReading r → took_first next ≡ true
    → is_flexible next ≡ is_flexible r → ReadRecord (λ s. Some s.now) r next found fields
    → MatchBool found (IsReading next × (records_left r ≡ fields ∷ records_left next)) (records_left r ≡ [])
unfolding records_left
record_read r next found fields h first flexible read =
    let bytes = h.known.0 in
    let t = takes r.state next.state bytes (pending_of (Some next.rdr.now) next) found fields h.between (rw (h.defaults, h.known.1) at read.0) in
    by found t
  where
    by : (b : Bool) → Takes r.state h.known.0 b fields next.state (pending_of (Some next.rdr.now) next)
        → MatchBool b (IsReading next × (records_left r ≡ fields ∷ records_left next)) (records_left r ≡ [])
    by true t =
        let known : unread next ≡ Some t.0 = rw read.1 t.1 in (
          record {
            plain = read.3 ∙ h.plain;
            ready = inl first;
            defaults = read.2 ∙ h.defaults;
            of_any_length = flexible ∙ h.of_any_length;
            known = (t.0, known);
            between = t.2;
          },
          rw (h.known.1, known) (rw t.1 at t.3),
        )
    by false t = rw h.known.1 t

-- a text has at most as many records as bytes
records_from-short : (n : ℕ) (s : State) (xs : List ℕ) → ends_at_end s ≡ false → length (records_from default_config n s xs) ≤ length xs
unfolding records_from
records_from-short zero s xs b = omega arith
records_from-short (suc n) s xs b = by (next_record default_config s [] [] xs) refl (records_from-short n)
  where
    by : (o : Option Read) → next_record default_config s [] [] xs ≡ o
        → ((t : State) (ys : List ℕ) → ends_at_end t ≡ false → length (records_from default_config n t ys) ≤ length ys)
        → length (records_next (records_from default_config n) o) ≤ length xs
    by None e more = omega arith
    by (Some p) e more =
        let q = next_shorter s xs p b e in
        let left : length p.2 < length xs = q.1 in
        let m : length (records_from default_config n p.1 p.2) ≤ length p.2 = more p.1 p.2 q.0 in
        omega arith

strip_bom-short : (xs : List ℕ) → length (strip_bom xs) ≤ length xs
unfolding strip_bom
strip_bom-short [] = omega arith
strip_bom-short (a ∷ []) = omega arith
strip_bom-short (a ∷ b ∷ []) = omega arith
strip_bom-short (a ∷ b ∷ c ∷ rest) = by (is_bom a b c)
  where
    by : (t : Bool) → length (cond t rest (a ∷ b ∷ c ∷ rest)) ≤ length (a ∷ b ∷ c ∷ rest)
    by true = omega arith
    by false = omega arith

pub length-records_of : (text : List ℕ) → length (records_of text) ≤ length text
unfolding records_of
length-records_of text = omega (arith, records_from-short (length (strip_bom text) + 1) st.StartRecord (strip_bom text) refl, strip_bom-short text)
