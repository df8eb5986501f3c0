-- The table of a run's activities: comma-separated values (RFC 4180), a row for each net.
use Rattle.std.specs.Prelude.{ℕ, ◌-◌, ◌==◌, List, [], ◌∷◌, ◌++◌, codes, decimal, if◌then◌else◌}
use Rattle.std.specs.List.{flat_map, list_any}
use Rattle.cmb_wave.specs.declared.level.Level.TheVariants.{Zero, One, X}
use Rattle.cmb_netlist.specs.Netlist.{name_of}
use Rattle.cmb_design_model.specs.Design.{Design}
use Rattle.cmb_design_model.specs.Value.{count, value}
use Rattle.cmb_activity.specs.Activities.{ticks_at}

-- a double quote is written twice
abbrev pub doubled : ℕ → List ℕ
doubled byte = if byte == 34 then byte ∷ byte ∷ [] else byte ∷ []

abbrev pub quoted : List ℕ → List ℕ
quoted name = codes "\"" ++ (flat_map doubled name ++ codes "\"")

-- a name as a field: in double quotes where it has one
unfoldable pub field : List ℕ → List ℕ
field name = if list_any (λ byte. byte == 34) name then quoted name else name

unfoldable pub row : List ℕ → ℕ → ℕ → ℕ → ℕ → List ℕ
row name changes low high unknown =
    field name ++ (codes "," ++ (decimal changes ++ (codes "," ++ (decimal low ++ (codes "," ++ (decimal high ++ (codes "," ++ (decimal unknown ++ codes "\n"))))))))

-- how often a net changes after tick 0, and at how many ticks it is 0, 1 and x
abbrev pub net_row : Design → ℕ → List ℕ
net_row design net =
    row (name_of design.netlist net) (count design net design.horizon - count design net 1)
    (ticks_at (value design net) Zero design.horizon) (ticks_at (value design net) One design.horizon) (ticks_at (value design net) X design.horizon)

abbrev pub header : List ℕ
header = codes "net,changes,low,high,unknown\n"

-- the table of some nets, in their order
abbrev pub activity_table : Design → List ℕ → List ℕ
activity_table design nets = header ++ flat_map (net_row design) nets
