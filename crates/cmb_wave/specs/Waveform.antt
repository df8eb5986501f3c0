-- A waveform is a level at each tick. Before tick 0 it counts as x, as a variable does in IEEE 1364-2005 until it is given a value.
-- A change is a tick at which the level differs from the one a tick before, as clause 18 there records value changes in a dump.
-- Spans are half-open, [from, to): a clock is a tick up to which all is known, itself left out, as in Fujimoto (1990).
use Rattle.std.specs.Prelude.{ℕ, zero, suc, ◌-◌, ◌<◌, ◌≤◌, ◌≢◌, Bool, true, false, List, [], ◌∷◌, ◌++◌, length, nat_le, nat_lt, if◌then◌else◌, filter, Option, Some, None}
use Rattle.cmb_wave.specs.declared.level.Level.{Level}
use Rattle.cmb_wave.specs.declared.level.Level.TheVariants.{Zero, One, X}
use Rattle.cmb_wave.specs.declared.level.Change.{Change}

-- whether two levels are one
abbrev pub same_level : Level → Level → Bool
same_level Zero Zero = true
same_level One One = true
same_level X X = true
same_level _ _ = false

-- ---- the changes of a waveform

-- the level one tick before, x before tick 0
abbrev pub level_before : (ℕ → Level) → ℕ → Level
level_before level zero = X
level_before level (suc tick) = level tick

-- the change at a tick: one where the level differs from that a tick before, else none
unfoldable pub change_at : (ℕ → Level) → ℕ → List Change
change_at level tick =
    if same_level (level_before level tick) (level tick) then [] else record { tick = tick; level = level tick } ∷ []

-- the changes in so many ticks from a tick on
unfoldable pub changes_in : (ℕ → Level) → ℕ → ℕ → List Change
changes_in level from zero = []
changes_in level from (suc ticks) = change_at level from ++ changes_in level (suc from) ticks

-- the changes at ticks of [from, to), by rising tick
unfoldable pub changes_between : (ℕ → Level) → ℕ → ℕ → List Change
unfolding changes_in
changes_between level from to = changes_in level from (to - from)

-- how many changes there are at ticks below this one
unfoldable pub count_below : (ℕ → Level) → ℕ → ℕ
count_below level upto = length (changes_between level 0 upto)

-- ---- what a list of changes tells, by rising tick after the level `kept`

-- the level at a tick: that of the last change at or before it, `kept` where there is none
abbrev pub level_at : Level → List Change → ℕ → Level
level_at kept [] tick = kept
level_at kept (change ∷ changes) tick =
    if nat_le change.tick tick then level_at change.level changes tick else kept

-- the level that it ends with: that of its last change, `kept` where there is none
abbrev pub last_level : Level → List Change → Level
last_level kept [] = kept
last_level kept (change ∷ changes) = last_level change.level changes

-- its changes at or after a tick
abbrev pub at_or_after : ℕ → List Change → List Change
at_or_after from changes = filter (λ change. nat_le from change.tick) changes

-- its changes before a tick
abbrev pub changes_below : ℕ → List Change → List Change
changes_below upto changes = filter (λ change. nat_lt change.tick upto) changes

-- how many changes at its head stand below a tick: in a list that rises, all that do
abbrev pub below : ℕ → List Change → ℕ
below tick [] = 0
below tick (change ∷ changes) = if nat_lt change.tick tick then suc (below tick changes) else 0

-- the tick of the first change, where it is none after this level
abbrev pub clash : Level → List Change → Option ℕ
clash level [] = None
clash level (change ∷ changes) = if same_level change.level level then Some change.tick else None

-- ---- lists that can be a waveform's

-- the ticks rise strictly, and none is below `from`
abbrev pub Rises : ℕ → List Change → Type 0
Rises from [] = Unit {0}
Rises from (change ∷ changes) = (from ≤ change.tick) × Rises (suc change.tick) changes

-- the ticks rise strictly and lie in [from, to), and each change is to a level other than the one before it, which is `kept` before the first
abbrev pub IsTrace : Level → ℕ → List Change → ℕ → Type 0
IsTrace kept from [] to = from ≤ to
IsTrace kept from (change ∷ changes) to =
    (from ≤ change.tick) × (change.tick < to) × (change.level ≢ kept) × IsTrace change.level (suc change.tick) changes to

-- the same of a span that isn't empty, whatever the level before the first change
abbrev pub IsPart : ℕ → List Change → ℕ → Type 0
IsPart from [] to = from < to
IsPart from (change ∷ changes) to =
    (from ≤ change.tick) × (change.tick < to) × IsTrace change.level (suc change.tick) changes to
