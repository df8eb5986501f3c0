-- What shares make and tell is exact, in any order of events.
use Rattle.std.proofs.Common.{◌≡◌, ◌∙◌, ◌⊎◌, inl, inr, ℕ, zero, suc, ◌<◌, ◌≤◌, true, false, [], ◌∷◌, subst, sym, arith}
use Rattle.std.specs.Prelude.{Contains, slice_index_or}
use Rattle.std.proofs.lemmas.Bool.{cases_Bool, cases_lt, false≢true}
use Rattle.std.proofs.lemmas.List.Elements.{Contains-get_or, Contains-push}
use Rattle.cmb_wave.specs.declared.level.Level.{Level}
use Rattle.cmb_netlist.specs.declared.netlist.Driver.{Driver}
use Rattle.cmb_netlist.specs.declared.netlist.Driver.TheVariants.{Input, Gate, Flop}
use Rattle.cmb_netlist.specs.Netlist.{driver_of, pins_of}
use Rattle.cmb_design_model.specs.Design.{Design}
use Rattle.cmb_design_model.specs.Nets.{is_flop}
use Rattle.cmb_design_model.specs.Value.{value}
use Rattle.cmb_engine.specs.Crossings.{IsCrossing, IsWithinLookahead}
use Rattle.cmb_engine.specs.Rows.{LooksAt}
use Rattle.cmb_engine.specs.Shares.{IsDriven, IsGiven}
use Rattle.cmb_engine.specs.Windows.{end_of}
use Rattle.cmb_engine.proofs.RowFacts.{looks-earlier, row-same, value-meets_row}
use Rattle.cmb_shares_protocol.specs.Machine.{Processes}
use Rattle.cmb_shares_protocol.specs.Network.{IsNetwork, Network, ahead}
use Rattle.cmb_shares_protocol.proofs.Grid.{ahead-below, ahead-past, lookahead-share}
use Rattle.cmb_shares_protocol.proofs.Sound.{IsSound}
use Rattle.cmb_shares.specs.Traces.{AreMade, MeetsRow, Serves, Sharing}

-- in its lookahead a flip-flop looks at earlier ticks than those of the window
pub looks-before : (design : Design) (net from upto tick other past : ℕ) (driver : Driver) → is_flop driver ≡ true → IsWithinLookahead design from upto net → from ≤ tick → tick < upto → LooksAt design net tick driver other past → past < from
looks-before design net from upto tick other past Input flop within late early looks = absurd (false≢true flop)
looks-before design net from upto tick other past (Gate kind operands) flop within late early looks = absurd (false≢true flop)
looks-before design net from upto tick other past (Flop source) flop within late early looks = omega (arith, looks.1, within tick late early looks.2)

-- what a row looks at its net reads
looks-read : (design : Design) (net tick other past : ℕ) (driver : Driver) → LooksAt design net tick driver other past → Contains (pins_of driver) other
looks-read design net tick other past Input looks = absurd looks
looks-read design net tick other past (Gate kind operands) looks = subst (Contains operands) looks.2 (Contains-get_or operands looks.0 0 looks.1)
looks-read design net tick other past (Flop source) looks = subst (Contains (source ∷ [])) looks.0 (Contains-push [] source)

module _ (network : Network) (lawful : IsNetwork network) (sharing : Sharing) (serves : Serves network sharing) (processes : Processes) (sound : IsSound network processes) (level : ℕ → ℕ → ℕ → Level)
    (made : AreMade network sharing processes level) where
  abbrev clock : ℕ → ℕ
  clock share = (processes share).clock

  -- a share made it, or may tell it
  abbrev IsMade : ℕ → ℕ → ℕ → Type 0
  IsMade share net tick = (tick < clock share) ⊎ (IsCrossing sharing.design sharing.crossing net × (tick < ahead network (clock share)))

  earlier-made : (share net tick past : ℕ) → past < tick → IsMade share net tick → IsMade share net past
  earlier-made share net tick past h (inl early) = inl (omega (arith, h, early))
  earlier-made share net tick past h (inr (crosses, early)) = inr (crosses, omega (arith, h, early))

  meets : (share net tick : ℕ) → share < network.shares → IsDriven (sharing.driven share) net → IsMade share net tick → MeetsRow sharing.design (level share) net tick
  meets share net tick inside drives (inl early) = made.made share net tick inside drives early
  meets share net tick inside drives (inr (crosses, early)) = made.told share net tick inside drives crosses early

  -- what is looked at lies below the clock
  looks-made : (share net tick other past : ℕ) → IsMade share net tick → LooksAt sharing.design net tick (driver_of sharing.design.netlist net) other past → past < clock share
  looks-made share net tick other past (inl early) looks = omega (arith, early, looks-earlier sharing.design net tick (driver_of sharing.design.netlist net) other past looks)
  looks-made share net tick other past (inr (crosses, early)) looks = by (cases_lt tick (clock share)) (cases_lt (clock share) network.horizon)
    where
      by : (tick < clock share) ⊎ (clock share ≤ tick) → (clock share < network.horizon) ⊎ (network.horizon ≤ clock share) → past < clock share
      by (inl before) _ = omega (arith, before, looks-earlier sharing.design net tick (driver_of sharing.design.netlist net) other past looks)
      by (inr late) (inr ended) = absurd (omega (arith, late, early, ahead-past network (clock share) ended))
      by (inr late) (inl here) =
          let end : ahead network (clock share) ≡ end_of sharing.windows (clock share) = ahead-below network (clock share) here ∙ serves.ends (clock share) in
          looks-before sharing.design net (clock share) (end_of sharing.windows (clock share)) tick other past (driver_of sharing.design.netlist net) crosses.1
          (serves.ahead net (clock share) crosses (omega (arith, here, serves.horizon))) late (omega (arith, early, end)) looks

  -- what a share took its owner made, or told ahead
  taken-made : (share net tick : ℕ) → share < network.shares → IsGiven sharing.design (sharing.driven share) net → tick < (processes share).received (sharing.owner net) → IsMade (sharing.owner net) net tick
  taken-made share net tick inside given taken =
      let was = sound.channels (sharing.owner net) share (serves.leads share net inside given) in
      inr (serves.crosses share net inside given, omega (arith, taken, was.taken, was.told_soon, lookahead-share network (clock (sharing.owner net)) share inside))

  exact-below : (bound share net tick : ℕ) → tick < bound → share < network.shares → IsDriven (sharing.driven share) net → IsMade share net tick → level share net tick ≡ value sharing.design net tick
  exact-below zero share net tick h inside drives is = absurd (omega (arith, h))
  exact-below (suc bound) share net tick h inside drives is =
      meets share net tick inside drives is
      ∙ row-same sharing.design (level share) (value sharing.design) net tick (driver_of sharing.design.netlist net)
      (λ other past looks. seen other past looks (cases_Bool (slice_index_or (sharing.driven share) other false)) (exact-below bound))
      (λ t earlier. exact-below bound share net t (omega (arith, h, earlier)) inside drives (earlier-made share net tick t earlier is))
      ∙ sym (value-meets_row sharing.design net tick)
    where
      seen : (other past : ℕ) → LooksAt sharing.design net tick (driver_of sharing.design.netlist net) other past
          → (slice_index_or (sharing.driven share) other false ≡ true) ⊎ (slice_index_or (sharing.driven share) other false ≡ false)
          → ((share net tick : ℕ) → tick < bound → share < network.shares → IsDriven (sharing.driven share) net → IsMade share net tick → level share net tick ≡ value sharing.design net tick)
          → level share other past ≡ value sharing.design other past
      seen other past looks (inl own) before =
          before share other past (omega (arith, h, looks-earlier sharing.design net tick (driver_of sharing.design.netlist net) other past looks)) inside own (inl (looks-made share net tick other past is looks))
      seen other past looks (inr none) before =
          let given : IsGiven sharing.design (sharing.driven share) other =
          record { undriven = none; reader = net; reader_driven = drives; read = looks-read sharing.design net tick other past (driver_of sharing.design.netlist net) looks } in
          let leads = serves.leads share other inside given in
          let taken : past < (processes share).received (sharing.owner other) =
          omega (arith, looks-made share net tick other past is looks, (sound.channels (sharing.owner other) share leads).heard) in
          made.taken share other past inside given taken
          ∙ before (sharing.owner other) other past (omega (arith, h, looks-earlier sharing.design net tick (driver_of sharing.design.netlist net) other past looks)) (lawful.sender (sharing.owner other) share leads) (serves.owned share other inside given)
          (taken-made share other past inside given taken)

  pub made-exact : (share net tick : ℕ) → share < network.shares → IsDriven (sharing.driven share) net → tick < clock share → level share net tick ≡ value sharing.design net tick
  made-exact share net tick inside drives early = exact-below (suc tick) share net tick (omega arith) inside drives (inl early)

  pub told-exact : (share net tick : ℕ) → share < network.shares → IsDriven (sharing.driven share) net → IsCrossing sharing.design sharing.crossing net → tick < ahead network (clock share) → level share net tick ≡ value sharing.design net tick
  told-exact share net tick inside drives crosses early = exact-below (suc tick) share net tick (omega arith) inside drives (inr (crosses, early))
