-- The channels of stations make one network.
use Rattle.std.proofs.Common.{◌≡◌, ◌∙◌, ◌⊎◌, inl, inr, ℕ, zero, suc, ◌<◌, ◌≤◌, ◌==◌, ◌||◌, Bool, true, false, cond, List, [], ◌∷◌, ◌++◌, length, get_or, set, ap, refl, subst, sym, arith, get_or-set_same, get_or-set_other}
use mathlib.Core.Path.{fun_ext}
use Rattle.std.specs.Prelude.{All}
use Rattle.std.proofs.lemmas.Bool.{both_ways, cases_Bool, cases_eq, cases_lt, eq-eqb, eqb-true, ne_eqb, or_cases}
use Rattle.std.proofs.lemmas.List.{get_or_default, length-set}
use Rattle.std.proofs.lemmas.List.Elements.{All-cons, All-nil, All-push}
use Rattle.std.proofs.lemmas.List.Folds.{list_any-append, list_any_at, list_any_none}
use Rattle.cmb_engine.specs.Windows.{HaveTicks}
use Rattle.cmb_shares_protocol.specs.Network.{IsNetwork}
use Rattle.cmb_shares.specs.declared.message.Envelope.{Envelope}
use Rattle.cmb_shares.specs.Inner.Channels.{greeting}
use Rattle.cmb_shares.specs.Inner.Flows.{AreSources}
use Rattle.cmb_shares.specs.Inner.Opened.{AreStations}
use Rattle.cmb_shares.specs.Inner.Processes.{AreJoined, AreLone, AreMembers, leads_among, leads_by, member_of, network_of, process_of, upto_by}
use Rattle.cmb_shares.specs.Inner.Runs.{Run}
use Rattle.cmb_shares.specs.Inner.Stations.{Standing}

abbrev by_reader : List Envelope → ℕ → Bool
by_reader channels number = leads_by (λ e. e.reader) channels number

abbrev by_sender : List Envelope → ℕ → Bool
by_sender channels number = leads_by (λ e. e.sender) channels number

or-true : (b : Bool) → (b || true) ≡ true
or-true true = refl
or-true false = refl

or-false : (b : Bool) → (b || false) ≡ b
or-false true = refl
or-false false = refl

leads-push : (peer : Envelope → ℕ) (channels : List Envelope) (e : Envelope) (number : ℕ) → leads_by peer (channels ++ e ∷ []) number ≡ (leads_by peer channels number || (peer e == number))
leads-push peer channels e number =
    list_any-append (λ (c : Envelope). peer c == number) channels (e ∷ []) ∙ ap (λ b. leads_by peer channels number || b) (or-false (peer e == number))

-- what is the same of a station in a place is the same of all of them
set-kept : {X : Type 0} (field : Standing → X) (list : List Standing) (place : ℕ) (one d : Standing) → place < length list → field one ≡ field (get_or list place d)
    → (k : ℕ) (e : Standing) → field (get_or (set list place one) k e) ≡ field (get_or list k e)
set-kept field list place one d within same k e = by (cases_eq k place)
  where
    by : (k ≡ place) ⊎ (k ≡ place → ⊥) → field (get_or (set list place one) k e) ≡ field (get_or list k e)
    by (inl is) =
        ap (λ n. field (get_or (set list place one) n e)) is ∙ ap field (get_or-set_same list place one e within) ∙ same
        ∙ ap field (get_or_default list place d e within) ∙ ap (λ n. field (get_or list n e)) (sym is)
    by (inr not) = ap field (get_or-set_other list place k one e not)

-- stations stay in order where one of them gets a channel
pub ordered-set : (list : List Standing) (place : ℕ) (one d : Standing) → place < length list → one.number ≡ (get_or list place d).number → one.clock ≡ (get_or list place d).clock
    → AreStations list → AreStations (set list place one)
ordered-set list place one d within number clock ordered k e inside =
    let was = ordered k e (omega (arith, inside, length-set list place one)) in
    (set-kept (λ s. s.number) list place one d within number k e ∙ was.0, set-kept (λ s. s.clock) list place one d within clock k e ∙ was.1)

module _ (count : ℕ) (old : List Standing) (sender reader : ℕ) (one other d e : Standing) (there : sender < length old) (here : reader < length old)
    (feeds : one.feeds ≡ (get_or old sender d).feeds ++ greeting sender reader ∷ []) (inlets : one.inlets ≡ (get_or old sender d).inlets) (text : one.text ≡ (get_or old sender d).text)
    (feeds' : other.feeds ≡ (get_or (set old sender one) reader e).feeds) (inlets' : other.inlets ≡ (get_or (set old sender one) reader e).inlets ++ greeting sender reader ∷ [])
    (text' : other.text ≡ (get_or (set old sender one) reader e).text) where
  abbrev mid : List Standing
  mid = set old sender one

  abbrev new : List Standing
  new = set mid reader other

  within : reader < length mid
  within = omega (arith, here, length-set old sender one)

  feeds-cases : (k : ℕ) (f : Standing) → ((k ≡ sender) × ((get_or new k f).feeds ≡ (get_or old k f).feeds ++ greeting sender reader ∷ [])) ⊎ ((k ≡ sender → ⊥) × ((get_or new k f).feeds ≡ (get_or old k f).feeds))
  feeds-cases k f = by (cases_eq k sender)
    where
      after : (get_or new k f).feeds ≡ (get_or mid k f).feeds
      after = set-kept (λ s. s.feeds) mid reader other e within feeds' k f

      by : (k ≡ sender) ⊎ (k ≡ sender → ⊥) → ((k ≡ sender) × ((get_or new k f).feeds ≡ (get_or old k f).feeds ++ greeting sender reader ∷ [])) ⊎ ((k ≡ sender → ⊥) × ((get_or new k f).feeds ≡ (get_or old k f).feeds))
      by (inl is) =
          inl (
            is,
            after ∙ ap (λ n. (get_or mid n f).feeds) is ∙ ap (λ (s : Standing). s.feeds) (get_or-set_same old sender one f there) ∙ feeds
                ∙ ap (λ (s : Standing). s.feeds ++ greeting sender reader ∷ []) (get_or_default old sender d f there) ∙ ap (λ n. (get_or old n f).feeds ++ greeting sender reader ∷ []) (sym is),
          )
      by (inr not) = inr (not, after ∙ ap (λ (s : Standing). s.feeds) (get_or-set_other old sender k one f not))

  inlets-cases : (k : ℕ) (f : Standing) → ((k ≡ reader) × ((get_or new k f).inlets ≡ (get_or old k f).inlets ++ greeting sender reader ∷ [])) ⊎ ((k ≡ reader → ⊥) × ((get_or new k f).inlets ≡ (get_or old k f).inlets))
  inlets-cases k f = by (cases_eq k reader)
    where
      before : (n : ℕ) (g : Standing) → (get_or mid n g).inlets ≡ (get_or old n g).inlets
      before = set-kept (λ s. s.inlets) old sender one d there inlets

      by : (k ≡ reader) ⊎ (k ≡ reader → ⊥) → ((k ≡ reader) × ((get_or new k f).inlets ≡ (get_or old k f).inlets ++ greeting sender reader ∷ [])) ⊎ ((k ≡ reader → ⊥) × ((get_or new k f).inlets ≡ (get_or old k f).inlets))
      by (inl is) =
          inl (
            is,
            ap (λ n. (get_or new n f).inlets) is ∙ ap (λ (s : Standing). s.inlets) (get_or-set_same mid reader other f within) ∙ inlets'
                ∙ ap (λ (s : Standing). s.inlets ++ greeting sender reader ∷ []) (get_or_default mid reader e f within) ∙ ap (λ (l : List Envelope). l ++ greeting sender reader ∷ []) (before reader f)
                ∙ ap (λ n. (get_or old n f).inlets ++ greeting sender reader ∷ []) (sym is),
          )
      by (inr not) = inr (not, ap (λ (s : Standing). s.inlets) (get_or-set_other mid reader k other f not) ∙ before k f)

  text-kept : (k : ℕ) (f : Standing) → (get_or new k f).text ≡ (get_or old k f).text
  text-kept k f = set-kept (λ s. s.text) mid reader other e within text' k f ∙ set-kept (λ s. s.text) old sender one d there text k f

  length-new : length new ≡ length old
  length-new = length-set mid reader other ∙ length-set old sender one

  -- one more channel
  pushed : (channels channels' : List Envelope) (peer : Envelope → ℕ) (number : ℕ) → channels' ≡ channels ++ greeting sender reader ∷ [] → leads_by peer channels' number ≡ (leads_by peer channels number || (peer (greeting sender reader) == number))
  pushed channels channels' peer number is = ap (λ (l : List Envelope). leads_by peer l number) is ∙ leads-push peer channels (greeting sender reader) number

  pushed-there : (channels channels' : List Envelope) (peer : Envelope → ℕ) (number : ℕ) → channels' ≡ channels ++ greeting sender reader ∷ [] → number ≡ peer (greeting sender reader) → leads_by peer channels' number ≡ true
  pushed-there channels channels' peer number is e =
      pushed channels channels' peer number is ∙ ap (λ b. leads_by peer channels number || b) (eq-eqb (peer (greeting sender reader)) number (sym e)) ∙ or-true (leads_by peer channels number)

  pushed-other : (channels channels' : List Envelope) (peer : Envelope → ℕ) (number : ℕ) → channels' ≡ channels ++ greeting sender reader ∷ [] → (number ≡ peer (greeting sender reader) → ⊥) → leads_by peer channels' number ≡ leads_by peer channels number
  pushed-other channels channels' peer number is n =
      pushed channels channels' peer number is ∙ ap (λ b. leads_by peer channels number || b) (ne_eqb (peer (greeting sender reader)) number (λ h. n (sym h))) ∙ or-false (leads_by peer channels number)

  pub join-more : AreJoined count old → AreJoined count new
  join-more was = record {
    both = λ s r f inside inside'. both s r f (omega (arith, inside, length-new)) (omega (arith, inside', length-new)) (feeds-cases s f) (inlets-cases r f);
    readers = λ s r f inside leads. omega (arith, length-new, readers s r f (omega (arith, inside, length-new)) (feeds-cases s f) leads);
    senders = λ s r f inside leads. omega (arith, length-new, senders s r f (omega (arith, inside, length-new)) (inlets-cases r f) leads);
    text = λ s f inside. text-kept s f ∙ was.text s f (omega (arith, inside, length-new));
    begun = λ k f inside. (begun (get_or old k f).feeds (get_or new k f).feeds (first (feeds-cases k f)) (was.begun k f (omega (arith, inside, length-new))).0, begun (get_or old k f).inlets (get_or new k f).inlets (first (inlets-cases k f)) (was.begun k f (omega (arith, inside, length-new))).1);
  }
    where
      first : {A B P Q : Type 0} → (A × P) ⊎ (B × Q) → P ⊎ Q
      first (inl (a, p)) = inl p
      first (inr (b, q)) = inr q

      begun : (channels channels' : List Envelope) → (channels' ≡ channels ++ greeting sender reader ∷ []) ⊎ (channels' ≡ channels) → All (λ e. e.upto ≡ 1) channels → All (λ e. e.upto ≡ 1) channels'
      begun channels channels' (inl more) all = subst (All (λ (e : Envelope). e.upto ≡ 1)) (sym more) (All-push (λ (e : Envelope). e.upto ≡ 1) channels (greeting sender reader) all refl)
      begun channels channels' (inr same) all = subst (All (λ (e : Envelope). e.upto ≡ 1)) (sym same) all

      both : (s r : ℕ) (f : Standing) → s < length old → r < length old
          → ((s ≡ sender) × ((get_or new s f).feeds ≡ (get_or old s f).feeds ++ greeting sender reader ∷ [])) ⊎ ((s ≡ sender → ⊥) × ((get_or new s f).feeds ≡ (get_or old s f).feeds))
          → ((r ≡ reader) × ((get_or new r f).inlets ≡ (get_or old r f).inlets ++ greeting sender reader ∷ [])) ⊎ ((r ≡ reader → ⊥) × ((get_or new r f).inlets ≡ (get_or old r f).inlets))
          → by_reader (get_or new s f).feeds r ≡ by_sender (get_or new r f).inlets s
      both s r f inside inside' (inl (is, more)) (inl (is', more')) =
          pushed-there (get_or old s f).feeds (get_or new s f).feeds (λ m. m.reader) r more is' ∙ sym (pushed-there (get_or old r f).inlets (get_or new r f).inlets (λ m. m.sender) s more' is)
      both s r f inside inside' (inl (is, more)) (inr (not, same)) =
          pushed-other (get_or old s f).feeds (get_or new s f).feeds (λ m. m.reader) r more not ∙ was.both s r f inside inside' ∙ sym (ap (λ (l : List Envelope). by_sender l s) same)
      both s r f inside inside' (inr (not, same)) (inl (is', more')) =
          ap (λ (l : List Envelope). by_reader l r) same ∙ was.both s r f inside inside' ∙ sym (pushed-other (get_or old r f).inlets (get_or new r f).inlets (λ m. m.sender) s more' not)
      both s r f inside inside' (inr (not, same)) (inr (not', same')) =
          ap (λ (l : List Envelope). by_reader l r) same ∙ was.both s r f inside inside' ∙ sym (ap (λ (l : List Envelope). by_sender l s) same')

      readers : (s r : ℕ) (f : Standing) → s < length old
          → ((s ≡ sender) × ((get_or new s f).feeds ≡ (get_or old s f).feeds ++ greeting sender reader ∷ [])) ⊎ ((s ≡ sender → ⊥) × ((get_or new s f).feeds ≡ (get_or old s f).feeds))
          → by_reader (get_or new s f).feeds r ≡ true → r < length old
      readers s r f inside (inl (is, more)) leads =
          at (or_cases (by_reader (get_or old s f).feeds r) (reader == r) (sym (pushed (get_or old s f).feeds (get_or new s f).feeds (λ m. m.reader) r more) ∙ leads))
        where
          at : (by_reader (get_or old s f).feeds r ≡ true) ⊎ ((reader == r) ≡ true) → r < length old
          at (inl before) = was.readers s r f inside before
          at (inr now) = omega (arith, here, eqb-true reader r now)
      readers s r f inside (inr (not, same)) leads = was.readers s r f inside (sym (ap (λ (l : List Envelope). by_reader l r) same) ∙ leads)

      senders : (s r : ℕ) (f : Standing) → r < length old
          → ((r ≡ reader) × ((get_or new r f).inlets ≡ (get_or old r f).inlets ++ greeting sender reader ∷ [])) ⊎ ((r ≡ reader → ⊥) × ((get_or new r f).inlets ≡ (get_or old r f).inlets))
          → by_sender (get_or new r f).inlets s ≡ true → s < length old
      senders s r f inside (inl (is, more)) leads =
          at (or_cases (by_sender (get_or old r f).inlets s) (sender == s) (sym (pushed (get_or old r f).inlets (get_or new r f).inlets (λ m. m.sender) s more) ∙ leads))
        where
          at : (by_sender (get_or old r f).inlets s ≡ true) ⊎ ((sender == s) ≡ true) → s < length old
          at (inl before) = was.senders s r f inside before
          at (inr now) = omega (arith, there, eqb-true sender s now)
      senders s r f inside (inr (not, same)) leads = was.senders s r f inside (sym (ap (λ (l : List Envelope). by_sender l s) same) ∙ leads)

-- no channels are joined
pub join-none : (count : ℕ) (stations : List Standing) → AreLone count stations → AreJoined count stations
join-none count stations lone = record {
  both = λ s r f inside inside'. ap (λ (l : List Envelope). by_reader l r) (lone s f inside).0 ∙ sym (ap (λ (l : List Envelope). by_sender l s) (lone r f inside').1);
  readers = λ s r f inside leads. absurd (both_ways false refl (sym (ap (λ (l : List Envelope). by_reader l r) (lone s f inside).0) ∙ leads));
  senders = λ s r f inside leads. absurd (both_ways false refl (sym (ap (λ (l : List Envelope). by_sender l s) (lone r f inside).1) ∙ leads));
  text = λ s f inside. (lone s f inside).2;
  begun = λ k f inside. (subst (All (λ (e : Envelope). e.upto ≡ 1)) (sym (lone k f inside).0) (All-nil (λ (e : Envelope). e.upto ≡ 1)), subst (All (λ (e : Envelope). e.upto ≡ 1)) (sym (lone k f inside).1) (All-nil (λ (e : Envelope). e.upto ≡ 1)));
}

-- where nothing was told
upto-one : (peer : Envelope → ℕ) (number : ℕ) (channels : List Envelope) → All (λ e. e.upto ≡ 1) channels → upto_by peer channels number ≡ 1
upto-one peer number [] begun = refl
upto-one peer number (e ∷ es) begun = by (peer e == number) (upto-one peer number es (λ k d h. begun (suc k) d (omega (arith, h))))
  where
    by : (b : Bool) → upto_by peer es number ≡ 1 → cond b e.upto (upto_by peer es number) ≡ 1
    by true rest = begun 0 e (omega arith)
    by false rest = rest

-- ---- joined stations are in one network

among-at : (stations : List Standing) (sender reader : ℕ) (d : Standing) → sender < length stations
    → leads_among stations sender reader ≡ (((get_or stations sender d).text.reader == reader) || by_reader (get_or stations sender d).feeds reader)
among-at [] sender reader d inside = absurd (omega (arith, inside))
among-at (s ∷ ss) zero reader d inside = refl
among-at (s ∷ ss) (suc sender) reader d inside = among-at ss sender reader d (omega (arith, inside))

among-past : (stations : List Standing) (sender reader : ℕ) → length stations ≤ sender → leads_among stations sender reader ≡ false
among-past [] sender reader past = refl
among-past (s ∷ ss) zero reader past = absurd (omega (arith, past))
among-past (s ∷ ss) (suc sender) reader past = among-past ss sender reader (omega (arith, past))

module _ (run : Run) (stations : List Standing) (ticks : HaveTicks run.windows) (begun : 1 ≤ run.windows.horizon) (count : length stations ≡ length run.driven)
    (joined : AreJoined (length run.driven) stations) where
  some : Standing
  some = record { number = 0; clock = 0; senders = []; inlets = []; feeds = []; text = greeting 0 0 }

  from : (sender reader : ℕ) → leads_among stations sender reader ≡ true → sender < length stations
  from sender reader leads = by (cases_lt sender (length stations))
    where
      by : (sender < length stations) ⊎ (length stations ≤ sender) → sender < length stations
      by (inl inside) = inside
      by (inr past) = absurd (both_ways _ (among-past stations sender reader past) leads)

  to : (sender reader : ℕ) → leads_among stations sender reader ≡ true → reader ≤ length run.driven
  to sender reader leads =
      by (or_cases ((get_or stations sender some).text.reader == reader) (by_reader (get_or stations sender some).feeds reader) (sym (among-at stations sender reader some inside) ∙ leads))
    where
      inside : sender < length stations
      inside = from sender reader leads

      by : (((get_or stations sender some).text.reader == reader) ≡ true) ⊎ (by_reader (get_or stations sender some).feeds reader ≡ true) → reader ≤ length run.driven
      by (inl text) = omega (arith, eqb-true (get_or stations sender some).text.reader reader text, ap (λ (e : Envelope). e.reader) (joined.text sender some inside))
      by (inr feeds) = omega (arith, count, joined.readers sender reader some inside feeds)

  is-network : (room : ℕ → ℕ → ℕ) → ((sender reader : ℕ) → 1 ≤ room sender reader) → IsNetwork (network_of run stations room)
  is-network room rooms = record {
    begins = begun;
    later = λ tick early. (ticks tick early).0;
    within = λ tick early. (ticks tick early).1;
    sender = λ sender reader leads. omega (arith, count, from sender reader leads);
    reader = to;
    room = λ sender reader leads. rooms sender reader;
  }

  takes : (number sender : ℕ) (d : Standing) → number < length stations → leads_among stations sender number ≡ by_sender (get_or stations number d).inlets sender
  takes number sender d inside = by (cases_lt sender (length stations)) (cases_Bool (by_sender (get_or stations number d).inlets sender))
    where
      by : (sender < length stations) ⊎ (length stations ≤ sender) → (by_sender (get_or stations number d).inlets sender ≡ true) ⊎ (by_sender (get_or stations number d).inlets sender ≡ false)
          → leads_among stations sender number ≡ by_sender (get_or stations number d).inlets sender
      by (inl there) _ =
          let other : (get_or stations sender d).text.reader ≡ number → ⊥ = λ e. omega (arith, e, ap (λ (m : Envelope). m.reader) (joined.text sender d there), count, inside) in
          among-at stations sender number d there ∙ ap (λ b. b || by_reader (get_or stations sender d).feeds number) (ne_eqb (get_or stations sender d).text.reader number other)
          ∙ joined.both sender number d there inside
      by (inr past) (inl leads) = absurd (omega (arith, past, joined.senders sender number d inside leads))
      by (inr past) (inr none) = among-past stations sender number past ∙ sym none

  starts : (k : ℕ) (d : Standing) → k < length stations → (get_or stations k d).clock ≡ 1 → process_of (member_of (get_or stations k d)) ≡ record { clock = 1; sent = λ reader. 1; received = λ sender. 1 }
  starts k d inside clock =
      let station : Standing = get_or stations k d in
      let begun = joined.begun k d inside in
      let sent : upto_by (λ e. e.reader) (station.text ∷ station.feeds) ≡ (λ (reader : ℕ). 1) =
      fun_ext (λ reader. upto-one (λ e. e.reader) reader (station.text ∷ station.feeds) (All-cons (λ (e : Envelope). e.upto ≡ 1) station.text station.feeds (ap (λ (e : Envelope). e.upto) (joined.text k d inside)) begun.0)) in
      let received : upto_by (λ e. e.sender) station.inlets ≡ (λ (sender : ℕ). 1) = fun_ext (λ sender. upto-one (λ e. e.sender) sender station.inlets begun.1) in
      λ i. record { clock = clock i; sent = sent i; received = received i }

  told : (sources : List Envelope) (clock : ℕ) → length sources ≡ length run.driven → AreSources run clock sources → (sender : ℕ) → leads_among stations sender (length run.driven) ≡ by_sender sources sender
  told sources clock long ordered sender = by (cases_lt sender (length stations))
    where
      by : (sender < length stations) ⊎ (length stations ≤ sender) → leads_among stations sender (length run.driven) ≡ by_sender sources sender
      by (inl there) =
          let text : ((get_or stations sender some).text.reader == length run.driven) ≡ true = eq-eqb (get_or stations sender some).text.reader (length run.driven) (ap (λ (e : Envelope). e.reader) (joined.text sender some there)) in
          let inside : sender < length sources = omega (arith, there, count, long) in
          let source : Envelope = greeting 0 0 in
          among-at stations sender (length run.driven) some there ∙ ap (λ b. b || by_reader (get_or stations sender some).feeds (length run.driven)) text
          ∙ sym (list_any_at (λ (e : Envelope). e.sender == sender) sources sender source inside (eq-eqb (get_or sources sender source).sender sender (ordered sender source inside).0))
      by (inr past) =
          among-past stations sender (length run.driven) past
          ∙ sym (list_any_none (λ (e : Envelope). e.sender == sender) sources (λ k d h. ne_eqb (get_or sources k d).sender sender (λ e. omega (arith, e, (ordered k d h).0, h, long, count, past))))

  pub are-members : ((k : ℕ) (d : Standing) → k < length stations → ((get_or stations k d).number ≡ k) × ((get_or stations k d).clock ≡ 1)) → AreMembers run stations
  are-members numbers room rooms = (
    is-network room rooms,
    λ k d inside. (
      record {
        shares = refl;
        begin = refl;
        ends = λ tick. refl;
        horizon = refl;
        tells = λ reader. ap (λ n. leads_among stations n reader) (numbers k d inside).0 ∙ among-at stations k reader d inside;
        takes = λ sender. ap (λ n. leads_among stations sender n) (numbers k d inside).0 ∙ takes k sender d inside;
      },
      starts k d inside (numbers k d inside).1,
    ),
    λ clock sources long ordered. record {
      shares = refl;
      begin = refl;
      ends = λ tick. refl;
      horizon = refl;
      tells = λ reader. among-past stations (length run.driven) reader (omega (arith, count));
      takes = told sources clock long ordered;
    },
  )
