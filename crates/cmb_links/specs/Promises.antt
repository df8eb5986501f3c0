-- Lists of promises, the newest of a net, and the promise that a word stands for.
use Rattle.std.specs.Prelude.{◌≡◌, ℕ, ◌^◌, ◌/◌, ◌%◌, ◌≤◌, List, [], ◌∷◌, ◌==◌, if◌then◌else◌, All}
use Rattle.cmb_wave.specs.declared.level.Promise.{Promise}

abbrev pub promise : ℕ → ℕ → ℕ → Promise
promise net count upto = record { net = net; count = count; upto = upto }

-- the promise of a net that a word stands for
abbrev pub promise_of_word : ℕ → ℕ → Promise
promise_of_word net word = promise net (word / 2 ^ 32) (word % 2 ^ 32)

-- the last promise of a net in a list, or p
abbrev pub newest_after : Promise → ℕ → List Promise → Promise
newest_after p net [] = p
newest_after p net (q ∷ qs) = newest_after (if q.net == net then q else p) net qs

-- the last promise of a net, (0, 0) where there is none
abbrev pub newest : ℕ → List Promise → Promise
newest net ps = newest_after (promise net 0 0) net ps

-- no promise is below an earlier one of its net
abbrev pub NeverFalls : List Promise → Type 0
NeverFalls [] = Unit {0}
NeverFalls (p ∷ ps) = All (λ q. q.net ≡ p.net → p.upto ≤ q.upto) ps × NeverFalls ps
