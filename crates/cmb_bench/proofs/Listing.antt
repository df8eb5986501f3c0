-- One round of the loop over the operands.
use Rattle.cmb_bench.specs.Inner.Reading.{◌>>=◌}
use Rattle.std.proofs.Common.{◌≡◌, List, [], ◌∷◌, ◌++◌, true, false, refl, sym, ap, ◌∙◌, Result, Ok, Err, append_assoc}
use Rattle.std.specs.Prelude.{if◌then◌else◌}
use Rattle.cmb_bench.specs.declared.fault.BenchFault.{BenchFault}
use Rattle.cmb_bench.specs.declared.fault.ReadError.{ReadError}
use Rattle.cmb_bench.specs.declared.fault.ReadError.TheVariants as errors
use Rattle.cmb_netlist.specs.declared.netlist.Cell.{Cell}
use Rattle.cmb_bench.specs.Text.{Lexeme}
use Rattle.cmb_bench.specs.declared.text.Class.TheVariants.{Close, Comma}
use Rattle.cmb_bench.specs.declared.fault.FaultKind.TheVariants as faults
use Rattle.cmb_bench.specs.Inner.Word.{is_end, has_class}
use Rattle.cmb_bench.specs.Inner.Scan.{behind}
use Rattle.cmb_netlist.specs.Kinds.{takes_one}
use Rattle.cmb_bench.specs.Statement.{Mention}
use Rattle.cmb_bench.specs.Inner.Reading.{fault_at, misplaced, short_name, used_name, operands_at, with_first, Fails}

-- what is read, with these operands in front
abbrev pub with_front : List Mention → Result (List Mention × List Lexeme) BenchFault → Result (List Mention × List Lexeme) BenchFault
with_front ms read = do
  more ← read
  Ok (ms ++ more.0, more.1)

front_more : (ms : List Mention) (m : Mention) (read : Result (List Mention × List Lexeme) BenchFault) → with_front (ms ++ m ∷ []) read ≡ with_front ms (with_first m read)
front_more ms m (Ok x) = ap (λ l. Ok (l, x.1)) (append_assoc ms (m ∷ []) x.0)
front_more ms m (Err e) = refl

bind_bind : {A B C : Type 0} (r : Result A BenchFault) (g : A → Result B BenchFault) (h : B → Result C BenchFault) → (r >>= (λ a. g a >>= h)) ≡ ((r >>= g) >>= h)
bind_bind (Ok a) g h = refl
bind_bind (Err e) g h = refl

-- what is read behind an operand
abbrev pub after_operand : Cell → Mention → List Lexeme → Result (List Mention × List Lexeme) BenchFault
after_operand f m [] = Err (record { line = 0; kind = faults.Statement })
after_operand f m (u ∷ ts) =
    if has_class Comma u.word then (if takes_one f then Err (fault_at u faults.Operands) else with_first m (operands_at f ts))
    else (if has_class Close u.word then Ok (m ∷ [], ts) else Err (misplaced u))

one_by_one : (f : Cell) (s : List Lexeme) → operands_at f s ≡ (used_name s >>= (λ x. after_operand f x.0 x.1))
unfolding operands_at used_name
one_by_one f [] = refl
one_by_one f (t ∷ []) = bind_bind (short_name t) (λ name. Ok (record { name = name; line = t.line }, [])) (λ x. after_operand f x.0 x.1)
one_by_one f (t ∷ u ∷ ts) = bind_bind (short_name t) (λ name. Ok (record { name = name; line = t.line }, u ∷ ts)) (λ x. after_operand f x.0 x.1)

by_operand : (f : Cell) (s r : List Lexeme) (m : Mention) → used_name s ≡ Ok (m, r) → operands_at f s ≡ after_operand f m r
by_operand f s r m read = one_by_one f s ∙ ap (λ x. x >>= (λ y. after_operand f y.0 y.1)) read

comma : (f : Cell) (u : Lexeme) (ts : List Lexeme) (m : Mention) → has_class Comma u.word ≡ true → takes_one f ≡ false → after_operand f m (u ∷ ts) ≡ with_first m (operands_at f ts)
comma f u ts m comma_is more = rw (comma_is, more) refl

close : (f : Cell) (u : Lexeme) (ts : List Lexeme) (m : Mention) → has_class Comma u.word ≡ false → has_class Close u.word ≡ true → after_operand f m (u ∷ ts) ≡ Ok (m ∷ [], ts)
close f u ts m no_comma close_is = rw (no_comma, close_is) refl

inner : (u : Lexeme) (r q : List Lexeme) → r ≡ u ∷ behind u.word q → is_end u.word ≡ false → r ≡ u ∷ q
inner u r q r_is u_inner = r_is ∙ ap (λ b. u ∷ (if b then [] else q)) u_inner

pub next_round : (f : Cell) (s r q : List Lexeme) (u : Lexeme) (m : Mention) (ms : List Mention) →
    used_name s ≡ Ok (m, r) → r ≡ u ∷ behind u.word q → is_end u.word ≡ false → has_class Comma u.word ≡ true → takes_one f ≡ false →
    with_front (ms ++ m ∷ []) (operands_at f q) ≡ with_front ms (operands_at f s)
next_round f s r q u m ms read r_is u_inner comma_is more =
    front_more ms m (operands_at f q) ∙ ap (with_front ms) (sym (by_operand f s r m read ∙ ap (after_operand f m) (inner u r q r_is u_inner) ∙ comma f u q m comma_is more))

pub last_one : (f : Cell) (s r q : List Lexeme) (u : Lexeme) (m : Mention) (ms : List Mention) →
    used_name s ≡ Ok (m, r) → r ≡ u ∷ behind u.word q → is_end u.word ≡ false → has_class Comma u.word ≡ false → has_class Close u.word ≡ true →
    with_front ms (operands_at f s) ≡ Ok (ms ++ m ∷ [], q)
last_one f s r q u m ms read r_is u_inner no_comma close_is =
    ap (with_front ms) (by_operand f s r m read ∙ ap (after_operand f m) (inner u r q r_is u_inner) ∙ close f u q m no_comma close_is)

pub too_many : (f : Cell) (s r ts : List Lexeme) (u : Lexeme) (m : Mention) (ms : List Mention) →
    used_name s ≡ Ok (m, r) → r ≡ u ∷ ts → has_class Comma u.word ≡ true → takes_one f ≡ true → with_front ms (operands_at f s) ≡ Err (fault_at u faults.Operands)
too_many f s r ts u m ms read r_is comma_is one =
    let fails : after_operand f m (u ∷ ts) ≡ Err (fault_at u faults.Operands) = rw (comma_is, one) refl in
    ap (with_front ms) (by_operand f s r m read ∙ ap (after_operand f m) r_is ∙ fails)

pub no_mark : (f : Cell) (s r ts : List Lexeme) (u : Lexeme) (m : Mention) (ms : List Mention) →
    used_name s ≡ Ok (m, r) → r ≡ u ∷ ts → has_class Comma u.word ≡ false → has_class Close u.word ≡ false → with_front ms (operands_at f s) ≡ Err (misplaced u)
no_mark f s r ts u m ms read r_is no_comma no_close =
    let fails : after_operand f m (u ∷ ts) ≡ Err (misplaced u) = rw (no_comma, no_close) refl in
    ap (with_front ms) (by_operand f s r m read ∙ ap (after_operand f m) r_is ∙ fails)

pub stops_at : (f : Cell) (s : List Lexeme) (e : BenchFault) (ms : List Mention) → used_name s ≡ Err e → with_front ms (operands_at f s) ≡ Err e
stops_at f s e ms is_err = ap (with_front ms) (one_by_one f s ∙ ap (λ x. x >>= (λ y. after_operand f y.0 y.1)) is_err)

pub fails_on : {A B : Type 0} (e : ReadError) (r : Result A BenchFault) (whole : Result B BenchFault) → ((f : BenchFault) → r ≡ Err f → whole ≡ Err f) → Fails e r → Fails e whole
fails_on errors.Memory r whole go h = tt
fails_on (errors.Fault f) r whole go h = go f h
