-- What each call of a worker comes to as events, and that these follow one another.
use Rattle.std.proofs.Common.{◌≡◌, ◌∙◌, ℕ, suc, ◌<◌, ◌≤◌, Bool, List, [], ◌∷◌, ◌++◌, ◌⊎◌, inl, inr, None, Some, IsSome, refl, ap, sym, subst, arith, get_or, set, take, drop, drop-cons, length}
use Rattle.std.proofs.lemmas.Bool.{cases_lt}
use Rattle.std.proofs.lemmas.List.{set_split, take-append-drop}
use Rattle.std.specs.List.{Contains}
use Rattle.cmb_wave.specs.Calls.{promised}
use Rattle.cmb_wave.specs.Wave.{Piece}
use Rattle.cmb_wave.specs.declared.level.Promise.{Promise}
use Rattle.cmb_design_model.specs.Design.{Design}
use Rattle.cmb_core_cluster.specs.Clustering.{Clustering}
use Rattle.cmb_core_cluster.specs.Clusters.{Cluster, IsDrivenHere, IsSameButWaves, input_slot}
use Rattle.cmb_core_cluster.specs.Step.{wave_at}
use Rattle.cmb_core_cluster.proofs.Steps.{wave_at-net}
use Rattle.cmb_links.specs.Links.{PutData, TakeData, after_put, after_take}
use Rattle.cmb_links.specs.Promises.{newest}
use Rattle.cmb_links.specs.Seats.{after_check, after_count, after_finish, after_look, after_publish, after_raise}
use Rattle.cmb_links.specs.declared.view.View.{View}
use Rattle.cmb_run_exact.specs.Passed.{IsHeard, IsPassed}
use Rattle.cmb_run_free.specs.Inner.Channels.{MayFollow, Outbound}
use Rattle.cmb_run_free.specs.Inner.Turns.{Act, Deliver, Look, Hear, Step, Post, Put, Publish, Raise, Check, Finish, Count, Goes, InGoes, IsCutOf, IsCutShort, IsDelivered, IsStepped, Lead, OutGoes, Row, SeatGoes, Working, outbound, working}

-- one of a list in its place
split_at : {A : Type 0} (xs : List A) (i : ℕ) (d : A) → i < length xs → xs ≡ take i xs ++ get_or xs i d ∷ drop (suc i) xs
split_at xs i d within = sym (take-append-drop i xs) ∙ ap (λ l. take i xs ++ l) (drop-cons xs i d within)

-- a promise of a net of the cluster's own
pub own_promise : (cluster : Cluster) (net : ℕ) (promise : Promise) → IsDrivenHere cluster net → promise ≡ promised (wave_at cluster.waves net)
    → IsDrivenHere cluster promise.net × (promise ≡ promised (wave_at cluster.waves promise.net))
own_promise cluster net promise driven is =
    let same : promise.net ≡ net = ap (λ (p : Promise). p.net) is ∙ wave_at-net cluster.waves net in
    (subst (IsDrivenHere cluster) (sym same) driven, is ∙ ap (λ n. promised (wave_at cluster.waves n)) (sym same))

-- what a delivery leaves
pub delivered_is : (old new : Cluster) (piece : Piece) → IsSameButWaves old new → IsSome (input_slot old piece.net) → piece.from ≤ (wave_at old.waves piece.net).clock
    → ((wave_at old.waves piece.net).clock < piece.to → IsPassed piece.net piece.to old.waves new.waves) → (piece.to ≤ (wave_at old.waves piece.net).clock → new ≡ old)
    → IsDelivered piece old new
delivered_is old new piece same read joined passed still = go (cases_lt (wave_at old.waves piece.net).clock piece.to)
  where
    go : ((wave_at old.waves piece.net).clock < piece.to) ⊎ (piece.to ≤ (wave_at old.waves piece.net).clock) → IsDelivered piece old new
    go (inl more) = let is = passed more in record { same = same; read = read; joined = joined; met = omega (arith, is.met); others = is.others }
    go (inr past) =
        let clock : (net : ℕ) → (wave_at new.waves net).clock ≡ (wave_at old.waves net).clock = λ net. ap (λ (s : Cluster). (wave_at s.waves net).clock) (still past) in
        record { same = same; read = read; joined = joined; met = omega (arith, clock piece.net); others = λ other ne. clock other }

module _ (design : Design) (clustering : Clustering) where
  abbrev On : Working → Working → Type 0
  On = Goes design clustering

  pub Goes-same : (w : Working) → On w w
  Goes-same w = record { acts = []; lead = refl }

  pub Goes-is : (old new : Working) → new ≡ old → On old new
  Goes-is old new is = record { acts = []; lead = is }

  pub Goes-one : (act : Act) (old new : Working) → Row design clustering act old new → On old new
  Goes-one act old new row = record { acts = act ∷ []; lead = (new, row, refl) }

  append : (acts more : List Act) (old between new : Working) → Lead design clustering acts old between → Lead design clustering more between new → Lead design clustering (acts ++ more) old new
  append [] more old between new first then = subst (λ (w : Working). Lead design clustering more w new) first then
  append (act ∷ acts) more old between new first then = (first.0, first.1, append acts more first.0 between new first.2 then)

  pub Goes-again : (old between new : Working) → On old between → On between new → On old new
  Goes-again old between new first then = record { acts = first.acts ++ then.acts; lead = append first.acts then.acts old between new first.lead then.lead }

  -- ---- at the board

  pub SeatGoes-same : (seat : View) → SeatGoes design clustering seat seat
  SeatGoes-same seat = λ cluster ins outs. Goes-same (working cluster ins outs seat)

  pub SeatGoes-look : (old new : View) (promise : Promise) → new ≡ after_look old promise → SeatGoes design clustering old new
  SeatGoes-look old new promise is = λ cluster ins outs. Goes-one (Look promise) _ _ (ap (working cluster ins outs) is)

  pub SeatGoes-raise : (old new : View) → new ≡ after_raise old → SeatGoes design clustering old new
  SeatGoes-raise old new is = λ cluster ins outs. Goes-one Raise _ _ (ap (working cluster ins outs) is)

  pub SeatGoes-check : (old new : View) (raised : Bool) → new ≡ after_check old raised → SeatGoes design clustering old new
  SeatGoes-check old new raised is = λ cluster ins outs. Goes-one (Check raised) _ _ (ap (working cluster ins outs) is)

  pub SeatGoes-finish : (old new : View) → new ≡ after_finish old → SeatGoes design clustering old new
  SeatGoes-finish old new is = λ cluster ins outs. Goes-one Finish _ _ (ap (working cluster ins outs) is)

  pub SeatGoes-count : (old new : View) (finished : ℕ) → new ≡ after_count old finished → SeatGoes design clustering old new
  SeatGoes-count old new finished is = λ cluster ins outs. Goes-one (Count finished) _ _ (ap (working cluster ins outs) is)

  pub SeatGoes-again : (old between new : View) → SeatGoes design clustering old between → SeatGoes design clustering between new → SeatGoes design clustering old new
  SeatGoes-again old between new first then = λ cluster ins outs. Goes-again _ (working cluster ins outs between) _ (first cluster ins outs) (then cluster ins outs)

  -- a promise is told to the board
  pub publish_goes : (old new : View) (promise : Promise) → (newest promise.net old.promised.published).upto < promise.upto → new ≡ after_publish old promise
      → (cluster : Cluster) (ins : List TakeData) (outs : List Outbound) → IsDrivenHere cluster promise.net → promise ≡ promised (wave_at cluster.waves promise.net) → On (working cluster ins outs old) (working cluster ins outs new)
  publish_goes old new promise further is cluster ins outs driven known =
      Goes-one (Publish promise) _ _ (record { driven = driven; known = known; further = further }, ap (working cluster ins outs) is)

  -- a promise that was looked up is heard
  pub hear_goes : (old new : Cluster) (promise : Promise) (seat : View) → Contains seat.promised.loads promise → IsHeard promise old new (input_slot old promise.net)
      → (ins : List TakeData) (outs : List Outbound) → On (working old ins outs seat) (working new ins outs seat)
  hear_goes old new promise seat found heard ins outs = Goes-one (Hear promise) _ _ (found, heard, refl)

  pub step_goes : (old new : Cluster) → IsStepped design clustering old new → (ins : List TakeData) (outs : List Outbound) (seat : View) → On (working old ins outs seat) (working new ins outs seat)
  step_goes old new steps ins outs seat = Goes-one Step _ _ (steps, refl)

  -- ---- by a link in

  pub InGoes-same : (cluster : Cluster) (pass : TakeData) → InGoes design clustering cluster pass cluster pass
  InGoes-same cluster pass = λ before after outs seat. Goes-same _

  pub InGoes-again : (a b c : Cluster) (p q r : TakeData) → InGoes design clustering a p b q → InGoes design clustering b q c r → InGoes design clustering a p c r
  InGoes-again a b c p q r first then = λ before after outs seat. Goes-again _ (working b (before ++ q ∷ after) outs seat) _ (first before after outs seat) (then before after outs seat)

  pub deliver_goes : (old new : Cluster) (pass later : TakeData) (piece : Piece) → IsDelivered piece old new → later ≡ after_take pass piece → InGoes design clustering old pass new later
  deliver_goes old new pass later piece is took = λ before after outs seat.
      Goes-one (Deliver piece) _ _ (is, record { before = before; one = pass; other = later; after = after; was = refl; is = refl; goes = took }, refl)

  pub InGoes-at : (old new : Cluster) (ins : List TakeData) (i : ℕ) (d later : TakeData) → i < length ins → InGoes design clustering old (get_or ins i d) new later
      → (outs : List Outbound) (seat : View) → On (working old ins outs seat) (working new (set ins i later) outs seat)
  InGoes-at old new ins i d later within goes outs seat =
      let pass : TakeData = get_or ins i d in
      let was : ins ≡ take i ins ++ pass ∷ drop (suc i) ins = split_at ins i d within in
      let is : set ins i later ≡ take i ins ++ later ∷ drop (suc i) ins = set_split ins i later within in
      let P : List TakeData → Type 0 = λ l. On (working old l outs seat) (working new (set ins i later) outs seat) in
      let Q : List TakeData → Type 0 = λ l. On (working old (take i ins ++ pass ∷ drop (suc i) ins) outs seat) (working new l outs seat) in
      subst P (sym was) (subst Q (sym is) (goes (take i ins) (drop (suc i) ins) outs seat))

  -- ---- by a link out

  pub OutGoes-same : (cluster : Cluster) (out : Outbound) → OutGoes design clustering cluster out out
  OutGoes-same cluster out = λ ins before after seat. Goes-same _

  pub OutGoes-is : (cluster : Cluster) (old new : Outbound) → new ≡ old → OutGoes design clustering cluster old new
  OutGoes-is cluster old new is = λ ins before after seat. Goes-is _ _ (ap (λ out. working cluster ins (before ++ out ∷ after) seat) is)

  pub OutGoes-again : (cluster : Cluster) (a b c : Outbound) → OutGoes design clustering cluster a b → OutGoes design clustering cluster b c → OutGoes design clustering cluster a c
  OutGoes-again cluster a b c first then = λ ins before after seat. Goes-again _ (working cluster ins (before ++ b ∷ after) seat) _ (first ins before after seat) (then ins before after seat)

  pub post_goes : (cluster : Cluster) (pass : PutData) (piece : Piece) → IsCutOf cluster piece → MayFollow pass piece → OutGoes design clustering cluster (outbound pass None) (outbound pass (Some piece))
  post_goes cluster pass piece cut follows = λ ins before after seat.
      Goes-one (Post piece) _ _ (record { before = before; one = outbound pass None; other = outbound pass (Some piece); after = after; was = refl; is = refl; goes = record { cut = cut; follows = follows; none = refl; waits = refl } }, refl)

  pub put_goes : (cluster : Cluster) (pass later : PutData) (piece : Piece) → later ≡ after_put pass piece → OutGoes design clustering cluster (outbound pass (Some piece)) (outbound later None)
  put_goes cluster pass later piece is = λ ins before after seat.
      Goes-one (Put piece) _ _ (record { before = before; one = outbound pass (Some piece); other = outbound later None; after = after; was = refl; is = refl; goes = record { waited = refl; put = ap (λ (p : PutData). outbound p None) is } }, refl)

  pub OutGoes-at : (cluster : Cluster) (outs : List Outbound) (i : ℕ) (d new : Outbound) → i < length outs → OutGoes design clustering cluster (get_or outs i d) new
      → (ins : List TakeData) (seat : View) → On (working cluster ins outs seat) (working cluster ins (set outs i new) seat)
  OutGoes-at cluster outs i d new within goes ins seat =
      let old : Outbound = get_or outs i d in
      let was : outs ≡ take i outs ++ old ∷ drop (suc i) outs = split_at outs i d within in
      let is : set outs i new ≡ take i outs ++ new ∷ drop (suc i) outs = set_split outs i new within in
      let P : List Outbound → Type 0 = λ l. On (working cluster ins l seat) (working cluster ins (set outs i new) seat) in
      let Q : List Outbound → Type 0 = λ l. On (working cluster ins (take i outs ++ old ∷ drop (suc i) outs) seat) (working cluster ins l seat) in
      subst P (sym was) (subst Q (sym is) (goes ins (take i outs) (drop (suc i) outs) seat))

  -- ---- whole turns

  pub IsCutShort-seen : (old new : Working) → new.outs ≡ old.outs → new.seat ≡ old.seat → IsCutShort design clustering old new
  IsCutShort-seen old new outs seat = record { upto = old; goes = Goes-same old; outs = outs; seat = seat }

  pub IsCutShort-goes : (old new : Working) → On old new → IsCutShort design clustering old new
  IsCutShort-goes old new goes = record { upto = new; goes = goes; outs = refl; seat = refl }

  pub IsCutShort-again : (old between new : Working) → On old between → IsCutShort design clustering between new → IsCutShort design clustering old new
  IsCutShort-again old between new first then = record { upto = then.upto; goes = Goes-again old between then.upto first then.goes; outs = then.outs; seat = then.seat }
