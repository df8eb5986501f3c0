-- How the progress of a text goes over a line and its feed.
use Rattle.std.proofs.Common.{◌≡◌, ◌∙◌, ℕ, ◌+◌, ◌-◌, ◌*◌, Bool, true, false, cond, eqb, List, [], ◌∷◌, ◌++◌, refl, ap, sym, subst, arith}
use Rattle.std.specs.List.{AllByRecursion}
use Rattle.std.specs.Char.{is_ascii_digit}
use Rattle.std.proofs.lemmas.Bool.{eqb-true}
use Rattle.cmb_report.specs.Lines.{IsLine, bytes_of, changes_in, last_tick, number_behind, tells_change, tick_after}
use Rattle.cmb_report.specs.Progress.{limited, place_after, advanced}
use Rattle.cmb_report.specs.declared.text_progress.TextProgress.{TextProgress}
use Rattle.cmb_report.specs.declared.text_progress.At.{At}
use Rattle.cmb_report.specs.declared.text_progress.At.TheVariants.{Start, Tick, Rest}

abbrev at_of : ℕ → ℕ → ℕ → At → ℕ → TextProgress
at_of bytes changes tick at digits = record { bytes = bytes; changes = changes; tick = tick; at = at; digits = digits }

-- the rest of a line says nothing more
run_rest : (b c k d : ℕ) (line rest : List ℕ) → IsLine line → advanced (at_of b c k Rest d) (line ++ 10 ∷ rest) ≡ advanced (at_of b c k Start d) rest
run_rest b c k d [] rest h = refl
run_rest b c k d (x ∷ xs) rest h =
    let P : Bool → Type 0 = λ a. advanced (at_of b c k (cond a Start Rest) d) (xs ++ 10 ∷ rest) ≡ advanced (at_of b c k Start d) rest in
    subst P (sym h.0) (run_rest b c k d xs rest h.1)

-- the digits of a tick, and what is behind them
run_tick : (b c k d : ℕ) (line rest : List ℕ) → IsLine line → advanced (at_of b c k Tick d) (line ++ 10 ∷ rest) ≡ advanced (at_of b c (number_behind d line) Start (number_behind d line)) rest
run_tick b c k d [] rest h = refl
run_tick b c k d (x ∷ xs) rest h = go (is_ascii_digit x) (run_tick b c k more xs rest h.1)
  where
    more : ℕ
    more = limited (limited (d * 10) + (x - 48))

    go : (a : Bool) → advanced (at_of b c k Tick more) (xs ++ 10 ∷ rest) ≡ advanced (at_of b c (number_behind more xs) Start (number_behind more xs)) rest
        → advanced (cond a (at_of b c k Tick more) (at_of b c d (place_after x) d)) (xs ++ 10 ∷ rest) ≡ advanced (at_of b c (cond a (number_behind more xs) d) Start (cond a (number_behind more xs) d)) rest
    go true on = on
    go false on =
        let P : Bool → Type 0 = λ a. advanced (at_of b c d (cond a Start Rest) d) (xs ++ 10 ∷ rest) ≡ advanced (at_of b c d Start d) rest in
        subst P (sym h.0) (run_rest b c d d xs rest h.1)

-- a line from its beginning
run_line : (b c k d : ℕ) (line rest : List ℕ) → IsLine line
    → advanced (at_of b c k Start d) (line ++ 10 ∷ rest) ≡ advanced (at_of b (cond (tells_change line) (limited (c + 1)) c) (tick_after k line) Start (tick_after d line)) rest
run_line b c k d [] rest h = refl
run_line b c k d (x ∷ xs) rest h = subst P (sym h.0) (go (eqb x 35) refl)
  where
    P : Bool → Type 0
    P a =
        advanced (cond a (at_of b c k Start d) (cond (eqb x 35) (at_of b c k Tick 0) (cond (tells_change (x ∷ xs)) (at_of b (limited (c + 1)) k Rest d) (at_of b c k Rest d)))) (xs ++ 10 ∷ rest)
        ≡ advanced (at_of b (cond (tells_change (x ∷ xs)) (limited (c + 1)) c) (tick_after k (x ∷ xs)) Start (tick_after d (x ∷ xs))) rest

    others : (a : Bool) → advanced (cond a (at_of b (limited (c + 1)) k Rest d) (at_of b c k Rest d)) (xs ++ 10 ∷ rest) ≡ advanced (at_of b (cond a (limited (c + 1)) c) k Start d) rest
    others true = run_rest b (limited (c + 1)) k d xs rest h.1
    others false = run_rest b c k d xs rest h.1

    go : (a : Bool) → eqb x 35 ≡ a
        → advanced (cond a (at_of b c k Tick 0) (cond (tells_change (x ∷ xs)) (at_of b (limited (c + 1)) k Rest d) (at_of b c k Rest d))) (xs ++ 10 ∷ rest)
        ≡ advanced (at_of b (cond (tells_change (x ∷ xs)) (limited (c + 1)) c) (cond a (number_behind 0 xs) k) Start (cond a (number_behind 0 xs) d)) rest
    go true e =
        let none : tells_change (x ∷ xs) ≡ false = ap (λ n. tells_change (n ∷ xs)) (eqb-true x 35 e) in
        let Q : Bool → Type 0 = λ t. advanced (at_of b c k Tick 0) (xs ++ 10 ∷ rest) ≡ advanced (at_of b (cond t (limited (c + 1)) c) (number_behind 0 xs) Start (number_behind 0 xs)) rest in
        subst Q (sym none) (run_tick b c k 0 xs rest h.1)
    go false e = others (tells_change (x ∷ xs))

-- what the progress has counted behind these lines, and its tick
abbrev Counts : ℕ → ℕ → ℕ → ℕ → List (List ℕ) → ℕ → Type 0
Counts b c k d lines many =
    ((advanced (at_of b c k Start d) (bytes_of lines)).changes ≡ limited (many + changes_in lines)) × ((advanced (at_of b c k Start d) (bytes_of lines)).tick ≡ last_tick k lines)

-- all lines: what was counted of so many changes before goes on
pub run_lines : (b c k d many : ℕ) (lines : List (List ℕ)) → AllByRecursion IsLine lines → c ≡ limited many → Counts b c k d lines many
run_lines b c k d many [] h is = (is ∙ ap limited (omega arith), refl)
run_lines b c k d many (line ∷ lines) h is =
    let P : TextProgress → Type 0 = λ t. (t.changes ≡ limited (many + changes_in (line ∷ lines))) × (t.tick ≡ last_tick (tick_after k line) lines) in
    subst P (sym (run_line b c k d line (bytes_of lines) h.0))
    (go (tells_change line) (λ e n same. run_lines b e (tick_after k line) (tick_after d line) n lines h.1 same))
  where
    go : (a : Bool) → ((e n : ℕ) → e ≡ limited n → Counts b e (tick_after k line) (tick_after d line) lines n)
        → ((advanced (at_of b (cond a (limited (c + 1)) c) (tick_after k line) Start (tick_after d line)) (bytes_of lines)).changes ≡ limited (many + (cond a 1 0 + changes_in lines)))
        × ((advanced (at_of b (cond a (limited (c + 1)) c) (tick_after k line) Start (tick_after d line)) (bytes_of lines)).tick ≡ last_tick (tick_after k line) lines)
    go true on = let rest = on (limited (c + 1)) (many + 1) (omega (arith, is)) in (rest.0 ∙ ap limited (omega arith), rest.1)
    go false on = let rest = on c many is in (rest.0 ∙ ap limited (omega arith), rest.1)
