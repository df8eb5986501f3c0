-- The last message of a channel.
use Rattle.std.proofs.Common.{◌≡◌, ◌∙◌, List, [], ◌∷◌, ◌++◌, map, ap, refl}
use Rattle.std.proofs.lemmas.List.{map_push}
use Rattle.cmb_shares.specs.declared.message.Envelope.{Envelope}
use Rattle.cmb_shares.specs.Inner.Channels.{latest, latest_of}

latest-push : (first : Envelope) (more : List Envelope) (last : Envelope) → latest first (more ++ last ∷ []) ≡ last
latest-push first [] last = refl
latest-push first (next ∷ more) last = latest-push next more last

latest_of-push : (all : List Envelope) (last : Envelope) → latest_of (all ++ last ∷ []) ≡ last
latest_of-push [] last = refl
latest_of-push (first ∷ more) last = latest-push first more last

-- the one that came last is the last
pub latest-sent : {X : Type 0} (f : X → Envelope) (before after : List X) (x : X) → after ≡ before ++ x ∷ [] → latest_of (map f after) ≡ f x
latest-sent f before after x is = ap (λ l. latest_of (map f l)) is ∙ ap latest_of (map_push f before x) ∙ latest_of-push (map f before) (f x)
