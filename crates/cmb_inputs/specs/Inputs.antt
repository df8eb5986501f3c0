-- The inputs of a line, their texts, and what comes of reading them whole.
use Rattle.std.specs.Prelude.{◌≡◌, ℕ, ◌+◌, ◌-◌, ◌^◌, ◌<◌, ◌≤◌, ◌⊎◌, List, [], ◌∷◌, length, Option, Result, Ok, Err, IfOk, IfErr, ⊤}
use Rattle.cmb_io.specs.Sources.{IsTooLong, IsWhole, input_limit}
use Rattle.cmb_faults.specs.declared.fault.Fault.{Fault}
use Rattle.cmb_faults.specs.declared.fault.Fault.TheVariants as fault
use Rattle.cmb_io.specs.declared.source.Source as source
use Rattle.cmb_inputs.specs.declared.texts.InputTexts.{InputTexts}
use Rattle.cmb_cli_line.specs.declared.choice.Choice.{Choice}
use Rattle.cmb_cli_line.specs.declared.choice.Choice.TheVariants.{All, Only}
use Rattle.cmb_cli_line.specs.declared.choice.Pick.TheVariants.{Listed, Outputs}

-- ---- the sources

-- one source: its number, its bytes where it tells them, and how many of its reads had failed before the call and after it
pub record Input : Type 0 where
  pub number : ℕ
  pub bytes : Option (List ℕ)
  pub before : ℕ
  pub after : ℕ

abbrev pub input : ℕ → Option (List ℕ) → ℕ → ℕ → Input
input number bytes before after = record { number = number; bytes = bytes; before = before; after = after }

-- the source with this number as a call found it and left it
abbrev pub read_from : {S : Type 0} → source.Ghosts S → ℕ → S → S → Input
read_from s number old new = input number (s.remaining old) (s.failures old) (s.failures new)

-- where nets are chosen by a list, its text is read; so is the table of what is expected, in its place
abbrev pub with_table : Choice
with_table = Only Listed

-- of each source one more failed read can be counted
abbrev pub HaveRoom : ℕ → ℕ → ℕ → ℕ → ℕ → Type 0
HaveRoom bench delays stimuli clocks initial =
    (bench < 2 ^ 64 - 1) × (delays < 2 ^ 64 - 1) × (stimuli < 2 ^ 64 - 1) × (clocks < 2 ^ 64 - 1) × (initial < 2 ^ 64 - 1)

-- what is read, in order: the netlist, the tables of delays, stimuli, clocks and first levels, and then the rest
abbrev pub in_order : {A : Type 0} → A → A → A → A → A → List A → List A
in_order bench delays stimuli clocks initial rest = bench ∷ delays ∷ stimuli ∷ clocks ∷ initial ∷ rest

-- the rest is the list of nets, where one names the nets that are chosen
abbrev pub listed : {A : Type 0} → Choice → A → List A
listed All list = []
listed (Only Outputs) list = []
listed (Only Listed) list = list ∷ []

abbrev pub CanBeRead : Input → Type 0
CanBeRead i = (text : List ℕ) × IsWhole i.bytes text

-- a read of it failed during the call
abbrev pub HasFailed : Input → Type 0
HasFailed i = i.after ≡ i.before + 1

-- no read of it failed during the call
abbrev pub HasNotFailed : Input → Type 0
HasNotFailed i = i.after ≡ i.before

abbrev pub HasTooMany : Input → Type 0
HasTooMany i = IsTooLong i.bytes

-- ---- the texts

-- the names of nets are those of the list, or of the table of what is expected, where one is read
pub record Texts : Type 0 where
  pub bench : List ℕ
  pub delays : List ℕ
  pub stimuli : List ℕ
  pub clocks : List ℕ
  pub initial : List ℕ
  pub names : List ℕ

-- each of these texts is that of an input
abbrev pub AreWhole : List Input → List (List ℕ) → Type 0
AreWhole [] [] = ⊤
AreWhole [] (text ∷ texts) = ⊥
AreWhole (i ∷ inputs) [] = ⊥
AreWhole (i ∷ inputs) (text ∷ texts) = IsWhole i.bytes text × AreWhole inputs texts

-- the texts are those of the inputs
abbrev pub AreTexts : Choice → List Input → Texts → Type 0
AreTexts choice inputs texts = AreWhole inputs (in_order texts.bench texts.delays texts.stimuli texts.clocks texts.initial (listed choice texts.names))

-- what the inputs had
abbrev pub texts_in : InputTexts → Texts
texts_in texts =
    record { bench = texts.bench.items; delays = texts.delays.items; stimuli = texts.stimuli.items; clocks = texts.clocks.items; initial = texts.initial.items; names = texts.names.items }

-- no text is longer than an input may be
pub record CanBeInputs (texts : Texts) : Type 0 where
  pub bench : length texts.bench ≤ input_limit
  pub delays : length texts.delays ≤ input_limit
  pub stimuli : length texts.stimuli ≤ input_limit
  pub clocks : length texts.clocks ≤ input_limit
  pub initial : length texts.initial ≤ input_limit
  pub names : length texts.names ≤ input_limit

-- ---- reading

-- an input with this number wasn't read whole
abbrev pub IsUnread : ℕ → Input → Fault → Type 0
IsUnread number i (fault.TooLong n) = (n ≡ number) × HasTooMany i
IsUnread number i (fault.Read n) = (n ≡ number) × HasFailed i
IsUnread number i fault.Memory = ⊤
IsUnread number i _ = ⊥

-- the inputs are read in order: P holds of the one with this number, and those before it can be read whole
abbrev pub StopsAt : (Input → Type 0) → List Input → ℕ → Type 0
StopsAt P [] n = ⊥
StopsAt P (i ∷ inputs) n = ((n ≡ i.number) × P i) ⊎ (CanBeRead i × StopsAt P inputs n)

-- why not all inputs were read whole
abbrev pub LackTexts : List Input → Fault → Type 0
LackTexts inputs (fault.TooLong n) = StopsAt HasTooMany inputs n
LackTexts inputs (fault.Read n) = StopsAt HasFailed inputs n
LackTexts inputs fault.Memory = ⊤
LackTexts inputs _ = ⊥

-- the answer is that the input with this number couldn't be read
abbrev pub TellsFailed : {A : Type 0} → Result A Fault → ℕ → Type 0
TellsFailed (Ok _) number = ⊥
TellsFailed (Err (fault.Read n)) number = n ≡ number
TellsFailed (Err _) number = ⊥

-- no read failed, but of the input of which the answer tells it
abbrev pub NoneFailedBut : (ℕ → Type 0) → List Input → Type 0
NoneFailedBut Told [] = ⊤
NoneFailedBut Told (i ∷ inputs) = ((Told i.number → ⊥) → HasNotFailed i) × NoneFailedBut Told inputs

abbrev pub IsUnreadBy : {A : Type 0} → List Input → Result A Fault → Type 0
IsUnreadBy inputs (Ok _) = ⊥
IsUnreadBy inputs (Err f) = LackTexts inputs f

-- the inputs were read, or they weren't
pub record AreRead (choice : Choice) (inputs : List Input) (answer : Result InputTexts Fault) : Type 0 where
  pub ok : IfOk answer (λ texts. AreTexts choice inputs (texts_in texts))
  pub short : IfOk answer (λ texts. CanBeInputs (texts_in texts))
  pub fault : IfErr answer (LackTexts inputs)
  pub failures : NoneFailedBut (TellsFailed answer) inputs

-- What comes of reading inputs and going on with their texts, of which comes what Goes says: not all were read whole, and Nothing holds; or
-- they were. A read fails only where that is the answer.
pub record IsReading {A : Type 0} (choice : Choice) (Goes : Texts → Result A Fault → Type 0) (Nothing : Type 0) (inputs : List Input) (answer : Result A Fault) : Type 0 where
  pub failures : NoneFailedBut (TellsFailed answer) inputs
  pub comes : (IsUnreadBy inputs answer × Nothing) ⊎ ((texts : Texts) × AreTexts choice inputs texts × Goes texts answer)
