-- The machine of clocks: how far each net is known to whom.
-- It is the protocol of Chandy and Misra (1979) and Bryant (1977) with every order of its events allowed: a post and its delivery are a message, a promise and a look a null message.
-- Its states hold clocks, spans and bounds, and no levels. A look asks the defined waveform whether the net changes between two ticks, and replies carry the defined changes.
use Rattle.std.specs.Prelude.{ℕ, nat_lt, nat_le, ◌==◌, List, [], ◌∷◌, ◌++◌, length, replicate, slice_index, slice_index_or, slice_get, slice_set, Option, Some, None, Result, Ok, Err, if◌then◌else◌}
use Rattle.cmb_wave.specs.declared.level.Promise.{Promise}
use Rattle.cmb_wave.specs.declared.level.Heard.TheVariants.{Old as HeardOld, Extended, Ahead}
use Rattle.cmb_wave.specs.Wave.{Piece}
use Rattle.cmb_design_model.specs.Design.{Design}
use Rattle.cmb_design_model.specs.Value.{changes, count}
use Rattle.cmb_design_model.specs.Exact.{nets_of}
use Rattle.cmb_core_protocol.specs.declared.event.Event.{Event}
use Rattle.cmb_core_protocol.specs.declared.event.Event.TheVariants.{Step, Post, Deliver, Promise as Promises, Look}
use Rattle.cmb_core_protocol.specs.declared.event.Reply.{Reply}
use Rattle.cmb_core_protocol.specs.declared.event.Reply.TheVariants.{Stepped, Posted, Delivered, Promised, Looked}
use Rattle.cmb_core_protocol.specs.declared.event.PlayFault.{PlayFault}
use Rattle.cmb_core_protocol.specs.declared.event.PlayFault.TheVariants.{NoSuch, Beyond, Stranger, Gap, Old}
use Rattle.cmb_core_cluster.specs.Clustering.{Clustering, cluster_of, has_input}
use Rattle.cmb_core_cluster.specs.Reach.{reach_by}

-- a span of ticks of a net, [from, to)
pub record Span : Type 0 where
  pub net : ℕ
  pub from : ℕ
  pub to : ℕ

-- a tick up to which a net is promised
pub record Bound : Type 0 where
  pub net : ℕ
  pub upto : ℕ

pub record Clocks : Type 0 where
  -- the output clock of each net
  pub outs : List ℕ
  -- of each cluster the input clock of each net, 0 where it has no input wave of it
  pub ins : List (List ℕ)
  pub posts : List Span
  pub promises : List Bound

abbrev pub out_clock : Clocks → ℕ → ℕ
out_clock clocks net = slice_index clocks.outs net

abbrev pub in_clock : Clocks → ℕ → ℕ → ℕ
in_clock clocks cluster net = slice_index (slice_index_or clocks.ins cluster []) net

-- the clock of a net as a cluster sees it
abbrev pub seen_clock : Clustering → Clocks → ℕ → ℕ → ℕ
seen_clock clustering clocks cluster net =
    if cluster_of clustering net == cluster then out_clock clocks net else in_clock clocks cluster net

unfoldable pub machine_reach : Design → Clustering → Clocks → ℕ → ℕ
machine_reach design clustering clocks net = reach_by design (seen_clock clustering clocks (cluster_of clustering net)) net

-- all clocks are 0, and nothing is sent or promised
abbrev pub start : Design → Clustering → Clocks
start design clustering = record {
  outs = replicate (nets_of design) 0;
  ins = replicate clustering.clusters (replicate (nets_of design) 0);
  posts = [];
  promises = [];
}

abbrev pub with_out : Clocks → ℕ → ℕ → Clocks
with_out clocks net tick = record clocks { outs = slice_set clocks.outs net tick }

abbrev pub with_in : Clocks → ℕ → ℕ → ℕ → Clocks
with_in clocks cluster net tick =
    record clocks { ins = slice_set clocks.ins cluster (slice_set (slice_index_or clocks.ins cluster []) net tick) }

-- a span with the changes of its net in it, and a bound with their count
abbrev pub piece_of : Design → Span → Piece
piece_of design span =
    record { net = span.net; from = span.from; to = span.to; changes = changes design span.net span.from span.to }

abbrev pub promise_of : Design → Bound → Promise
promise_of design bound = record { net = bound.net; count = count design bound.net bound.upto; upto = bound.upto }

-- the clocks after an event, and its reply
pub record Outcome : Type 0 where
  pub clocks : Clocks
  pub reply : Result Reply PlayFault

abbrev pub replied : Clocks → Reply → Outcome
replied clocks reply = record { clocks = clocks; reply = Ok reply }

-- a refusal changes nothing
abbrev pub refused : Clocks → PlayFault → Outcome
refused clocks fault = record { clocks = clocks; reply = Err fault }

abbrev pub stepped : Design → Clocks → ℕ → ℕ → Outcome
stepped design clocks net tick =
    if nat_lt (out_clock clocks net) tick
    then replied (with_out clocks net tick) (Stepped (Some (piece_of design (record { net = net; from = out_clock clocks net; to = tick }))))
    else replied clocks (Stepped None)

abbrev pub posted : Clocks → ℕ → ℕ → Outcome
posted clocks net from =
    if nat_lt (out_clock clocks net) from then refused clocks Beyond
    else (if from == out_clock clocks net then replied clocks (Posted None)
    else replied (record clocks { posts = clocks.posts ++ record { net = net; from = from; to = out_clock clocks net } ∷ [] }) (Posted (Some (length clocks.posts))))

abbrev pub machine_delivered : Design → Clustering → Clocks → ℕ → Option Span → Outcome
machine_delivered design clustering clocks cluster None = refused clocks NoSuch
machine_delivered design clustering clocks cluster (Some span) =
    let clock = in_clock clocks cluster span.net in
    if has_input design clustering cluster span.net
    then (if nat_lt clock span.from then refused clocks (Gap clock)
    else (if nat_le span.to clock then refused clocks (Old clock)
    else replied (with_in clocks cluster span.net span.to) (Delivered span.to)))
    else refused clocks Stranger

abbrev pub machine_promised : Design → Clocks → ℕ → Outcome
machine_promised design clocks net =
    let bound : Bound = record { net = net; upto = out_clock clocks net } in
    replied (record clocks { promises = clocks.promises ++ bound ∷ [] }) (Promised (length clocks.promises) (promise_of design bound))

abbrev pub looked : Design → Clustering → Clocks → ℕ → Option Bound → Outcome
looked design clustering clocks cluster None = refused clocks NoSuch
looked design clustering clocks cluster (Some bound) =
    let clock = in_clock clocks cluster bound.net in
    if has_input design clustering cluster bound.net
    then (if nat_le bound.upto clock then replied clocks (Looked HeardOld)
    else (if count design bound.net clock == count design bound.net bound.upto
    then replied (with_in clocks cluster bound.net bound.upto) (Looked Extended)
    else replied clocks (Looked Ahead)))
    else refused clocks Stranger

-- what an event does
abbrev pub play : Design → Clustering → Clocks → Event → Outcome
play design clustering clocks (Step net) =
    if nat_lt net (nets_of design) then stepped design clocks net (machine_reach design clustering clocks net) else refused clocks NoSuch
play design clustering clocks (Post net from) =
    if nat_lt net (nets_of design) then posted clocks net from else refused clocks NoSuch
play design clustering clocks (Deliver cluster number) =
    if nat_lt cluster clustering.clusters then machine_delivered design clustering clocks cluster (slice_get clocks.posts number) else refused clocks NoSuch
play design clustering clocks (Promises net) =
    if nat_lt net (nets_of design) then machine_promised design clocks net else refused clocks NoSuch
play design clustering clocks (Look cluster number) =
    if nat_lt cluster clustering.clusters then looked design clustering clocks cluster (slice_get clocks.promises number) else refused clocks NoSuch
