-- Turns of a loop over a world, each of which plays some events.
use Rattle.std.proofs.Common.{◌≡◌, ℕ, zero, suc, ◌+◌, ◌-◌, ◌<◌, List, [], ◌∷◌, ◌++◌, refl, sym, ◌∙◌, ap, arith, append_assoc, append-nil}
use Rattle.cmb_design_model.specs.Design.{Design}
use Rattle.cmb_core_protocol.specs.declared.event.Event.{Event}
use Rattle.cmb_core_cluster.specs.Clustering.{Clustering}
use Rattle.cmb_core_world.specs.World.{WorldWaves, play_world, world_after}
use Rattle.cmb_core_world.specs.Rounds.{events_each, IsBegun}

module _ (design : Design) (clustering : Clustering) where
  pub after_both : (world : WorldWaves) (first second : List Event) → world_after design clustering world (first ++ second) ≡ world_after design clustering (world_after design clustering world first) second
  after_both world [] second = refl
  after_both world (event ∷ first) second = after_both (play_world design clustering world event).world first second

  module _ (turn : ℕ → WorldWaves → List Event) where
    -- the first turns, and then the others
    each_split : (from to i j total : ℕ) (world : WorldWaves) → to ≡ from + i → total ≡ i + j
        → events_each design clustering turn from total world ≡ events_each design clustering turn from i world ++ events_each design clustering turn to j (world_after design clustering world (events_each design clustering turn from i world))
    each_split from to zero j total world e f =
        let here : from ≡ to = omega arith in
        let all : total ≡ j = omega arith in
        ap (λ n. events_each design clustering turn n total world) here ∙ ap (λ n. events_each design clustering turn to n world) all
    each_split from to (suc i) j zero world e f = absurd (omega arith)
    each_split from to (suc i) j (suc total) world e f =
        ap (λ es. turn from world ++ es) (each_split (suc from) to i j total (world_after design clustering world (turn from world)) (omega arith) (omega arith))
        ∙ sym (append_assoc (turn from world) (events_each design clustering turn (suc from) i (world_after design clustering world (turn from world))) _)
        ∙ ap (λ w. (turn from world ++ events_each design clustering turn (suc from) i (world_after design clustering world (turn from world))) ++ events_each design clustering turn to j w)
        (sym (after_both world (turn from world) (events_each design clustering turn (suc from) i (world_after design clustering world (turn from world)))))

    module _ (start now new : WorldWaves) (i : ℕ) (so_far : now ≡ world_after design clustering start (events_each design clustering turn 0 i start)) where
      before : List Event
      before = events_each design clustering turn 0 i start

      -- so many turns from here on
      onward : (j total : ℕ) → total ≡ i + j → events_each design clustering turn 0 total start ≡ events_each design clustering turn 0 i start ++ events_each design clustering turn i j now
      onward j total e = each_split 0 i i j total start (omega arith) e ∙ ap (λ w. events_each design clustering turn 0 i start ++ events_each design clustering turn i j w) (sym so_far)

      pub turn_played : new ≡ world_after design clustering now (turn i now) → new ≡ world_after design clustering start (events_each design clustering turn 0 (i + 1) start)
      turn_played e =
          e ∙ ap (λ w. world_after design clustering w (turn i now)) so_far ∙ sym (after_both start (events_each design clustering turn 0 i start) (turn i now))
          ∙ ap (world_after design clustering start) (sym (onward 1 (i + 1) refl ∙ ap (λ es. events_each design clustering turn 0 i start ++ es) (append-nil (turn i now))))

      pub turn_begun : (many : ℕ) → i < many → IsBegun design clustering now (turn i now) new → IsBegun design clustering start (events_each design clustering turn 0 many start) new
      turn_begun many h b = record {
        done = events_each design clustering turn 0 i start ++ b.done;
        rest = b.rest ++ events_each design clustering turn (suc i) (many - i - 1) (world_after design clustering now (turn i now));
        all =
            let parts : b.done ++ (b.rest ++ events_each design clustering turn (suc i) (many - i - 1) (world_after design clustering now (turn i now))) ≡ turn i now ++ events_each design clustering turn (suc i) (many - i - 1) (world_after design clustering now (turn i now)) =
            sym (append_assoc b.done b.rest _) ∙ ap (λ es. es ++ events_each design clustering turn (suc i) (many - i - 1) (world_after design clustering now (turn i now))) b.all
            in
            append_assoc (events_each design clustering turn 0 i start) b.done _
            ∙ ap (λ es. events_each design clustering turn 0 i start ++ es) parts
            ∙ sym (onward (suc (many - i - 1)) many (omega arith));
        here = b.here ∙ ap (λ w. world_after design clustering w b.done) so_far ∙ sym (after_both start (events_each design clustering turn 0 i start) b.done);
      }

  -- events that follow others
  pub begun_first : (start new : WorldWaves) (first second : List Event) → IsBegun design clustering start first new → IsBegun design clustering start (first ++ second) new
  begun_first start new first second b = record { done = b.done; rest = b.rest ++ second; all = sym (append_assoc b.done b.rest second) ∙ ap (λ es. es ++ second) b.all; here = b.here }

  pub begun_second : (start now new : WorldWaves) (first second : List Event) → now ≡ world_after design clustering start first → IsBegun design clustering now second new → IsBegun design clustering start (first ++ second) new
  begun_second start now new first second e b = record {
    done = first ++ b.done;
    rest = b.rest;
    all = append_assoc first b.done b.rest ∙ ap (λ es. first ++ es) b.all;
    here = b.here ∙ ap (λ w. world_after design clustering w b.done) e ∙ sym (after_both start first b.done);
  }

  pub begun_none : (start new : WorldWaves) (events : List Event) → new ≡ start → IsBegun design clustering start events new
  begun_none start new events e = record { done = []; rest = events; all = refl; here = e }
