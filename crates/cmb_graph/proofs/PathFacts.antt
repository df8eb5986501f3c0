-- A search of a netlist, step by step.
use Rattle.std.proofs.Common.{◌≡◌, ◌≢◌, ◌⊎◌, inl, inr, ℕ, ◌+◌, ◌-◌, ◌<◌, ◌≤◌, List, [], ◌∷◌, ◌++◌, length, take, drop, get_or, set, refl, sym, ap, ◌∙◌, subst, arith}
use Rattle.std.specs.Prelude.{All, AllPairs, count_by, Some, None}
use Rattle.std.proofs.lemmas.Bool.{cases_lt}
use Rattle.std.proofs.lemmas.List.{get_or_default, get_or_past, get_or_read, length-drop, length-set, length-take, length_push, take_all}
use Rattle.std.proofs.lemmas.List.Elements.{All-contains, Contains-get_or}
use Rattle.cmb_netlist.specs.Netlist.{Netlist}
use Rattle.cmb_graph.specs.Loops.{AreLoops, Reaches, Walk, one, targets}
use Rattle.cmb_graph.specs.Inner.Search.{AreSet, IsEntered, IsLooped, IsScanned, IsSearch, IsStill, IsUnderWay, is_new, seen_of, targets_at}
use Rattle.cmb_graph.specs.declared.search.Frame.{Frame}
use Rattle.cmb_graph.specs.declared.search.Search.{Search}
use Rattle.cmb_graph.specs.declared.search.Seen.{Seen}
use Rattle.cmb_graph.specs.declared.search.Seen.TheVariants.{New, On, Done}
use Rattle.cmb_graph.specs.declared.steps.Steps.{Steps}
use Rattle.cmb_graph.proofs.SearchFacts.{advanced, all_last, dropped, entered, last_reaches, merged, starts_before}
use Rattle.cmb_graph.proofs.PartFacts.{closed}
use Rattle.cmb_graph.proofs.NewFacts.{fewer_new, one_fewer, still_closed, still_entered}
use Rattle.cmb_graph.proofs.StartFacts.{split_last}
use Rattle.cmb_graph.proofs.NumberFacts.{numbered_done, numbered_entered}
use Rattle.cmb_graph.proofs.WalkFacts.{reach_from, reach_on}

pub on_within : (seen : List Seen) (x place : ℕ) → seen_of seen x ≡ On place → x < length seen
on_within seen x place e = by (cases_lt x (length seen))
  where
    by : (x < length seen) ⊎ (length seen ≤ x) → x < length seen
    by (inl l) = l
    by (inr g) = let f : seen_of seen x ≡ New = get_or_past seen x New g in absurd cc

pub last_within : (netlist : Netlist) (steps : Steps) (search : Search) (frames : List Frame) (frame : Frame) → IsUnderWay netlist steps search (frames ++ frame ∷ []) → frame.place < length search.path.items
last_within netlist steps search frames frame under = all_last (λ (f : Frame). f.place < length search.path.items) frames frame under.is.frames_within

pub net_at : (netlist : Netlist) (steps : Steps) (search : Search) (frames : List Frame) (place : ℕ) → IsUnderWay netlist steps search frames → place < length search.path.items
    → get_or search.path.items place 0 < length netlist.names
net_at netlist steps search frames place under within =
    let l = on_within search.seen.items (get_or search.path.items place 0) place (under.is.listed place within) in omega (arith, l, under.sized)

-- of one that was read
pub net_read : (netlist : Netlist) (steps : Steps) (search : Search) (frames : List Frame) (frame : Frame) (net : ℕ) → IsUnderWay netlist steps search (frames ++ frame ∷ [])
    → net ≡ get_or search.path.items frame.place net → net < length netlist.names
net_read netlist steps search frames frame net under read =
    let within = last_within netlist steps search frames frame under in
    let low = net_at netlist steps search (frames ++ frame ∷ []) frame.place under within in
    let e = get_or_read search.path.items frame.place net within read 0 in
    omega (arith, low, e)

-- where the steps lead that were read
pub targets_read : (netlist : Netlist) (steps : Steps) (begun search : Search) (frames : List Frame) (frame : Frame) (net : ℕ) (read : List ℕ) → IsUnderWay netlist steps begun (frames ++ frame ∷ [])
    → net ≡ get_or begun.path.items frame.place net → search.path.items ≡ begun.path.items → read ≡ targets netlist steps net → read ≡ targets_at netlist steps search frame.place
targets_read netlist steps begun search frames frame net read under at same is =
    let within = last_within netlist steps begun frames frame under in
    let e : net ≡ get_or search.path.items frame.place 0 = get_or_read begun.path.items frame.place net within at 0 ∙ ap (λ path. get_or path frame.place 0) (sym same) in
    is ∙ ap (targets netlist steps) e

pub seen_read : (netlist : Netlist) (steps : Steps) (search : Search) (frames : List Frame) (net next : ℕ) (read state : Seen) → IsUnderWay netlist steps search frames
    → next < length (targets netlist steps net) → read ≡ get_or search.seen.items (get_or (targets netlist steps net) next 0) read → read ≡ state
    → seen_of search.seen.items (get_or (targets netlist steps net) next 0) ≡ state
seen_read netlist steps search frames net next read state under within is e =
    let low : get_or (targets netlist steps net) next 0 < length search.seen.items = let l = under.inside net next 0 within in omega (arith, l, under.sized) in
    sym (get_or_read search.seen.items (get_or (targets netlist steps net) next 0) read low is New) ∙ e

-- a step to a net that is done
pub scan_done : (netlist : Netlist) (steps : Steps) (old new : Search) (frames : List Frame) (place next : ℕ) (targets_now : List ℕ) (read : Seen)
    → IsUnderWay netlist steps old (frames ++ record { place = place; next = next } ∷ []) → targets_now ≡ targets_at netlist steps old place → next < length targets_now
    → read ≡ get_or old.seen.items (get_or targets_now next 0) read → read ≡ Done → new ≡ old
    → IsUnderWay netlist steps new (frames ++ record { place = place; next = next + 1 } ∷ [])
scan_done netlist steps old new frames place next targets_now read under at within is done same =
    let P : Search → Type 0 = λ s. IsUnderWay netlist steps s (frames ++ record { place = place; next = next + 1 } ∷ []) in
    subst P (sym same) (record {
      inside = under.inside;
      sized = under.sized;
      is = advanced (targets netlist steps) old.seen.items old.marks.items old.path.items old.starts.items frames place next under.is (rw at at within)
          (inl (seen_read netlist steps old (frames ++ record { place = place; next = next } ∷ []) (get_or old.path.items place 0) next read Done under (rw at at within) (rw at at is) done));
      numbered = under.numbered;
      room = under.room;
    })

-- a step to a net on the path: the parts from there on become one
pub scan_on : (netlist : Netlist) (steps : Steps) (old new : Search) (frames : List Frame) (place next : ℕ) (targets_now : List ℕ) (read : Seen) (there : ℕ)
    → IsUnderWay netlist steps old (frames ++ record { place = place; next = next } ∷ []) → targets_now ≡ targets_at netlist steps old place → next < length targets_now
    → read ≡ get_or old.seen.items (get_or targets_now next 0) read → read ≡ On there
    → new.seen.items ≡ old.seen.items → new.marks.items ≡ old.marks.items → new.path.items ≡ old.path.items
    → new.numbers.items ≡ old.numbers.items → new.done ≡ old.done
    → (gone : List ℕ) × (old.starts.items ≡ new.starts.items ++ gone) × All (λ start. there < start) gone
    → (AllPairs (λ one other. one < other) old.starts.items → All (λ start. start ≤ there) new.starts.items)
    → IsUnderWay netlist steps new (frames ++ record { place = place; next = next + 1 } ∷ [])
scan_on netlist steps old new frames place next targets_now read there under at within is on seen marks path numbers done split low = record {
  inside = under.inside;
  sized = ap length seen ∙ under.sized;
  is = rw (seen, marks, path) (advanced to old.seen.items old.marks.items old.path.items new.starts.items frames place next
      (merged to old.seen.items old.marks.items old.path.items new.starts.items split.0 (frames ++ frame ∷ []) there (rw split.1 at under.is) split.2 reaches)
      within' (inr (there, state, λ start here under. All-contains (λ start. start ≤ there) new.starts.items start (low under-way) here)));
  numbered = rw (seen, numbers, done) under.numbered;
  room = rw (seen, path, done) under.room;
}
  where
    to : ℕ → List ℕ
    to = targets netlist steps

    frame : Frame
    frame = record { place = place; next = next }

    under-way : AllPairs (λ one other. one < other) old.starts.items
    under-way = under.is.starts_rise

    within' : next < length (targets netlist steps (get_or old.path.items place 0))
    within' = rw at at within

    state : seen_of old.seen.items (get_or (targets netlist steps (get_or old.path.items place 0)) next 0) ≡ On there
    state = seen_read netlist steps old (frames ++ record { place = place; next = next } ∷ []) (get_or old.path.items place 0) next read (On there) under within' (rw at at is) on

    reaches : (last : ℕ) → last + 1 ≡ length old.path.items → Reaches (targets netlist steps) (get_or old.path.items last 0) (get_or old.path.items there 0)
    reaches last end =
        let placed = under.is.placed (get_or (targets netlist steps (get_or old.path.items place 0)) next 0) there state in
        let step : Walk (targets netlist steps) (get_or old.path.items place 0) (get_or (targets netlist steps (get_or old.path.items place 0)) next 0) = one (Contains-get_or (targets netlist steps (get_or old.path.items place 0)) next 0 within') in
        let P : ℕ → Type 0 = λ x. Reaches (targets netlist steps) (get_or old.path.items last 0) x in
        subst P (sym placed.1) (inr (reach_from (targets netlist steps) (get_or old.path.items last 0) (get_or old.path.items place 0) _
        (last_reaches (targets netlist steps) old.seen.items old.marks.items old.path.items old.starts.items frames place next last under.is end) step))

-- the nets of the path are nets
pub path_inside : (netlist : Netlist) (steps : Steps) (search : Search) (frames : List Frame) → IsUnderWay netlist steps search frames → All (λ net. net < length netlist.names) search.path.items
path_inside netlist steps search frames under k d within =
    let low = net_at netlist steps search frames k under within in
    let e = get_or_default search.path.items k d 0 within in
    omega (arith, low, e)

-- the last part is done
pub finished : (netlist : Netlist) (steps : Steps) (old new : Search) (frames : List Frame) (place : ℕ) → IsScanned netlist steps old frames place None
    → 0 < length old.starts.items → get_or old.starts.items (length old.starts.items - 1) 0 ≡ place → new.starts.items ≡ take (length old.starts.items - 1) old.starts.items
    → new.path.items ≡ take place old.path.items → IsLooped (targets netlist steps) old.marks.items (drop place old.path.items) new.marks.items
    → AreSet Done old.seen.items (drop place old.path.items) new.seen.items → AreSet old.done old.numbers.items (drop place old.path.items) new.numbers.items
    → new.done ≡ old.done + length (drop place old.path.items) → IsUnderWay netlist steps new frames
finished netlist steps old new frames place (next, end, under) some last starts path looped shut given more = record {
  inside = under.inside;
  sized = shut.long ∙ under.sized;
  is = rw path is;
  numbered = rw more (numbered_done (targets netlist steps) old.seen.items new.seen.items old.numbers.items new.numbers.items old.marks.items old.path.items old.starts.items frames place next old.done under.is
      is.closed shut given under.numbered);
  room = let l = last_within netlist steps old frames (record { place = place; next = next }) under in
      let fewer = fewer_new old.seen.items new.seen.items shut.long (still_closed old.seen.items new.seen.items (drop place old.path.items) shut) in
      rw path (omega (arith, under.room, more, fewer, l, length-drop place old.path.items, length-take place old.path.items));
}
  where
    begun : old.starts.items ≡ new.starts.items ++ place ∷ []
    begun = split_last old.starts.items some ∙ ap (λ s. s ++ get_or old.starts.items (length old.starts.items - 1) 0 ∷ []) (sym starts) ∙ ap (λ x. new.starts.items ++ x ∷ []) last

    is : IsSearch (targets netlist steps) new.seen.items new.marks.items (take place old.path.items) new.starts.items frames
    is = closed (targets netlist steps) old.seen.items new.seen.items old.marks.items new.marks.items old.path.items new.starts.items frames place next (rw begun at under.is) end shut looped

-- a net within its part has no steps left
pub kept : (netlist : Netlist) (steps : Steps) (search : Search) (frames : List Frame) (place : ℕ) → IsScanned netlist steps search frames place None
    → (0 < length search.starts.items → get_or search.starts.items (length search.starts.items - 1) 0 ≢ place) → IsUnderWay netlist steps search frames
kept netlist steps search frames place (next, end, under) none = record {
  inside = under.inside;
  sized = under.sized;
  is = dropped (targets netlist steps) search.seen.items search.marks.items search.path.items search.starts.items frames place next under.is end
      (starts_before (targets netlist steps) search.seen.items search.marks.items search.path.items search.starts.items frames place next under.is none);
  numbered = under.numbered;
  room = under.room;
}

-- a new net is entered, which all nets of the path reach
pub entered_under : (netlist : Netlist) (steps : Steps) (old new : Search) (frames : List Frame) (net : ℕ) → IsUnderWay netlist steps old frames → IsEntered old net new
    → net < length old.seen.items → seen_of old.seen.items net ≡ New → ((place : ℕ) → place < length old.path.items → Reaches (targets netlist steps) (get_or old.path.items place 0) net)
    → old.frames.items ≡ frames → IsUnderWay netlist steps new new.frames.items
entered_under netlist steps old new frames net under is within new_net reached same = record {
  inside = under.inside;
  sized = ap length is.seen ∙ length-set old.seen.items net (On (length old.path.items)) ∙ under.sized;
  is = rw (is.seen, is.marks, is.path, is.starts, is.frames, same)
      (entered (targets netlist steps) old.seen.items old.marks.items old.path.items old.starts.items frames net under.is within new_net reached);
  numbered = rw (is.seen, is.numbers, is.done) (numbered_entered (targets netlist steps) old.seen.items old.numbers.items old.done net (length old.path.items) within under.numbered);
  room = let fewer = one_fewer old.seen.items net (length old.path.items) within new_net in
      rw (is.seen, is.path, is.done) (omega (arith, under.room, fewer, length_push old.path.items net));
}

pub part_is : (xs path : List ℕ) (place : ℕ) → xs ≡ path → take (length xs - place) (drop place xs) ≡ drop place path
part_is xs path place e = take_all (length xs - place) (drop place xs) (omega (arith, length-drop place xs)) ∙ ap (drop place) e

-- ---- on to a new net

-- all nets of the path reach where a step from the last frame leads
reaches_next : (netlist : Netlist) (steps : Steps) (search : Search) (frames : List Frame) (place next : ℕ) → IsUnderWay netlist steps search (frames ++ record { place = place; next = next } ∷ [])
    → next < length (targets_at netlist steps search place) → (low : ℕ) → low < length search.path.items
    → Reaches (targets netlist steps) (get_or search.path.items low 0) (get_or (targets_at netlist steps search place) next 0)
reaches_next netlist steps search frames place next under within low h =
    let to = targets netlist steps in
    let at = λ (i : ℕ). get_or search.path.items i 0 in
    let end : length search.path.items - 1 + 1 ≡ length search.path.items = omega arith in
    let on : Reaches to (at low) (at (length search.path.items - 1)) = under.is.forth low (length search.path.items - 1) (omega arith) (omega arith) in
    let back : Reaches to (at (length search.path.items - 1)) (at place) =
    last_reaches to search.seen.items search.marks.items search.path.items search.starts.items frames place next (length search.path.items - 1) under.is end in
    let step : Walk to (at place) (get_or (targets_at netlist steps search place) next 0) = one (Contains-get_or (targets_at netlist steps search place) next 0 within) in
    inr (reach_from to (at low) (at place) _ (reach_on to (at low) (at (length search.path.items - 1)) (at place) on back) step)

module _ (netlist : Netlist) (steps : Steps) (old mid new : Search) (place next : ℕ) (targets_now : List ℕ)
    (scanned : IsScanned netlist steps old old.frames.items place (Some next)) (at : targets_now ≡ targets_at netlist steps old place)
    (seen : mid.seen.items ≡ old.seen.items) (marks : mid.marks.items ≡ old.marks.items) (path : mid.path.items ≡ old.path.items) (starts : mid.starts.items ≡ old.starts.items)
    (numbers : mid.numbers.items ≡ old.numbers.items) (done : mid.done ≡ old.done)
    (is : IsEntered mid (get_or targets_now next 0) new) where
  net : ℕ
  net = get_or (targets_at netlist steps old place) next 0

  entered-is : IsEntered mid (get_or (targets_at netlist steps old place) next 0) new
  entered-is = rw at at is

  within : get_or (targets_at netlist steps old place) next 0 < length old.seen.items
  within = let l = scanned.2.inside (get_or old.path.items place 0) next 0 scanned.0 in omega (arith, l, scanned.2.sized)

  pub descended : mid.frames.items ≡ old.frames.items ++ record { place = place; next = next } ∷ [] → IsUnderWay netlist steps new new.frames.items
  descended frames =
      entered_under netlist steps mid new (old.frames.items ++ record { place = place; next = next } ∷ []) (get_or (targets_at netlist steps old place) next 0)
      (record {
        inside = scanned.2.inside;
        sized = ap length seen ∙ scanned.2.sized;
        is = rw (seen, marks, path, starts) scanned.2.is;
        numbered = rw (seen, numbers, done) scanned.2.numbered;
        room = rw (seen, path, done) scanned.2.room;
      }) entered-is (rw seen within) (rw seen scanned.1)
      (rw path (reaches_next netlist steps old old.frames.items place next scanned.2 scanned.0)) frames

  pub descended_fresh : count_by is_new new.seen.items + 1 ≡ count_by is_new old.seen.items
  descended_fresh =
      let e : new.seen.items ≡ set old.seen.items (get_or (targets_at netlist steps old place) next 0) (On (length mid.path.items)) =
      entered-is.seen ∙ ap (λ (s : List Seen). set s (get_or (targets_at netlist steps old place) next 0) (On (length mid.path.items))) seen in
      ap (λ (s : List Seen). count_by is_new s + 1) e ∙ one_fewer old.seen.items (get_or (targets_at netlist steps old place) next 0) (length mid.path.items) within scanned.1

  pub descended_still : IsStill old.seen.items new.seen.items
  descended_still =
      still_entered old.seen.items new.seen.items (get_or (targets_at netlist steps old place) next 0) (length mid.path.items) within
      (entered-is.seen ∙ ap (λ (s : List Seen). set s (get_or (targets_at netlist steps old place) next 0) (On (length mid.path.items))) seen)

-- ---- from net to net

-- where no steps are left the path is empty
pub idle_path : (netlist : Netlist) (steps : Steps) (search : Search) → IsUnderWay netlist steps search [] → (place : ℕ) → place < length search.path.items → ⊥
idle_path netlist steps search under place h =
    let left = under.is.starts_left 0 (under.is.first (omega arith)) in
    let l : left.1.0 < 0 = left.1.1 in
    omega arith

pub begun_under : (netlist : Netlist) (steps : Steps) (old new : Search) (net : ℕ) → IsUnderWay netlist steps old [] → old.frames.items ≡ [] → IsEntered old net new
    → net < length netlist.names → seen_of old.seen.items net ≡ New → IsUnderWay netlist steps new new.frames.items
begun_under netlist steps old new net under frames is within fresh =
    entered_under netlist steps old new [] net under is (omega (arith, under.sized)) fresh (λ place h. absurd (idle_path netlist steps old under place h)) frames

pub all_done : (netlist : Netlist) (steps : Steps) (search : Search) (end : ℕ) → IsUnderWay netlist steps search [] → length netlist.names ≤ end
    → ((net : ℕ) → net < end → seen_of search.seen.items net ≢ New) → (net : ℕ) → net < length netlist.names → seen_of search.seen.items net ≡ Done
all_done netlist steps search end under far found net within = by (seen_of search.seen.items net) refl
  where
    by : (s : Seen) → seen_of search.seen.items net ≡ s → seen_of search.seen.items net ≡ Done
    by New e = absurd (found net (omega arith) e)
    by (On place) e = absurd (idle_path netlist steps search under place (under.is.placed net place e).0)
    by Done e = e

pub looped_all : (netlist : Netlist) (steps : Steps) (search : Search) → IsUnderWay netlist steps search []
    → ((net : ℕ) → net < length netlist.names → seen_of search.seen.items net ≡ Done) → AreLoops netlist steps search.marks.items
looped_all netlist steps search under done = record {
  long = under.is.long ∙ under.sized;
  loops = λ net within marked. under.is.loops net marked;
  all = λ net within loop. under.is.all net (done net within) loop;
}
