-- Followers of ranges: what is known of a range's followers once one more range stands behind all.
use Rattle.std.proofs.Common.{◌≡◌, ◌≢◌, ℕ, zero, suc, ◌+◌, ◌<◌, inl, inr, false, List, [], ◌∷◌, ◌++◌, length, get_or, set, Some, All, subst, refl, sym, ap, ◌∙◌, arith}
use Rattle.std.specs.List.{Contains, AllZip, slice_get}
use Rattle.std.proofs.lemmas.List.{map-append, length-map, get_or_read}
use Rattle.std.proofs.lemmas.List.Elements.{All-cons, All-head, All-tail}
use Rattle.std.proofs.lemmas.Option.{slice_get_within, slice_get_read, same_Some}
use Rattle.list_laws.proofs.PlaceLaws.{slice_get-append_left, slice_get-push, Contains-from_place}
use Rattle.lorel_ranges.specs.Places.{Place}
use Rattle.lorel_ranges.specs.Ranges.{PlacedRange, places}
use Rattle.lorel_ranges.specs.Views.{place_tree, range_of, ranges_of}
use Rattle.lorel_ranges.specs.inside.SelectRanges.{IsOnce, IsFollowed, AreFollowed, further, GainsFollower}
use Rattle.lorel_ranges.specs.declared.select_ranges.TextRange.{TextRange}
use Rattle.lorel_ranges.specs.declared.select_ranges.Followers.{Followers}
use Rattle.lorel_ranges.specs.declared.select_ranges.Followers.TheVariants.{None, One, Several}
use Rattle.lorel_ranges.proofs.PlaceLaws.{told_place}
use Rattle.lorel_ranges.proofs.FuseLaws.{count_one, count_none, count_append}

-- ---- items at places
-- the place of the range with a number
pub place_at : (links : List TextRange) (number : ℕ) (link : TextRange) → slice_get links number ≡ Some link
    → slice_get (places (ranges_of links)) number ≡ Some (place_tree link.place)
place_at (first ∷ links) zero link is = let same : first ≡ link = cc in ap (λ (l : TextRange). Some (place_tree l.place)) same
place_at (first ∷ links) (suc number) link is = place_at links number link is
place_at [] number link is = cc

-- ---- one more follower
ranges_push : (links : List TextRange) (link : TextRange) → ranges_of (links ++ link ∷ []) ≡ ranges_of links ++ range_of link ∷ []
ranges_push links link = map-append range_of links (link ∷ [])

pub gained_ranges : (place : Place) (number : ℕ) (old new : List TextRange) → AllZip (GainsFollower place number) old new → ranges_of new ≡ ranges_of old
gained_ranges place number [] [] gains = refl
gained_ranges place number [] (link ∷ new) gains = absurd gains
gained_ranges place number (link ∷ old) [] gains = absurd gains
gained_ranges place number (link ∷ old) (other ∷ new) gains =
    let first = gains.0.range in
    let others = gained_ranges place number old new gains.1 in
    cc

pub gained_unused : (place : Place) (number : ℕ) (old new : List TextRange) → AllZip (GainsFollower place number) old new
    → All (λ link. link.used ≡ false) old → All (λ link. link.used ≡ false) new
gained_unused place number [] [] gains unused = unused
gained_unused place number [] (link ∷ new) gains unused = absurd gains
gained_unused place number (link ∷ old) [] gains unused = absurd gains
gained_unused place number (link ∷ old) (other ∷ new) gains unused =
    All-cons (λ l. l.used ≡ false) other new (gains.0.used ∙ All-head (λ l. l.used ≡ false) link old unused)
    (gained_unused place number old new gains.1 (All-tail (λ l. l.used ≡ false) link old unused))

gains_none : (place : Place) (number : ℕ) (links : List TextRange) → ((k : ℕ) (link : TextRange) → slice_get links k ≡ Some link → place_tree link.place ≢ place)
    → AllZip (GainsFollower place number) links links
gains_none place number [] apart = tt
gains_none place number (link ∷ links) apart = (
  record { range = refl; joined = refl; used = refl; here = λ same. absurd (apart 0 link refl same); elsewhere = λ other. refl },
  gains_none place number links (λ k other is. apart (suc k) other is),
)

-- where no range has the place nothing changes
pub gains_nowhere : (place : Place) (number : ℕ) (links : List TextRange) → (Contains (places (ranges_of links)) place → ⊥)
    → AllZip (GainsFollower place number) links links
gains_nowhere place number links absent = gains_none place number links
    (λ k link is same. absent (Contains-from_place (places (ranges_of links)) k place (place_at links k link is ∙ ap Some same)))

gains_once : (place : Place) (number : ℕ) (links : List TextRange) (earlier : ℕ) (link new : TextRange) → link ≡ get_or links earlier link
    → earlier < length links → ((k : ℕ) (other : TextRange) → slice_get links k ≡ Some other → place_tree other.place ≡ place → k ≡ earlier)
    → GainsFollower place number link new → AllZip (GainsFollower place number) links (set links earlier new)
gains_once place number [] earlier link new is within once gains = absurd (omega arith)
gains_once place number (first ∷ links) zero link new is within once gains = (
  subst (λ (l : TextRange). GainsFollower place number l new) is gains,
  gains_none place number links (λ k other there same. (let no_other = once (suc k) other there same in cc)),
)
gains_once place number (first ∷ links) (suc earlier) link new is within once gains = (
  record { range = refl; joined = refl; used = refl; here = λ same. absurd (first_apart (once 0 first refl same)); elsewhere = λ other. refl },
  gains_once place number links earlier link new is (omega arith)
      (λ k other there same. (let later = once (suc k) other there same in omega arith)) gains,
)
  where
    first_apart : 0 ≡ suc earlier → ⊥
    first_apart same = omega arith

-- where one range has the place it alone gains a follower
pub gains_there : (place : Place) (number : ℕ) (links : List TextRange) (earlier : ℕ) (link seen new : TextRange) → IsOnce (places (ranges_of links))
    → slice_get (places (ranges_of links)) earlier ≡ Some place → link ≡ get_or links earlier link → seen ≡ get_or links earlier seen
    → range_of new ≡ range_of link → new.joined ≡ link.joined → new.used ≡ link.used → new.followers ≡ further seen.followers number
    → AllZip (GainsFollower place number) links (set links earlier new)
gains_there place number links earlier link seen new once stands is seen_is range joined used followers =
    let within_places = slice_get_within (places (ranges_of links)) earlier place stands in
    let long = length-map (ranges_of links) (λ (r : PlacedRange). r.place) in
    let longer = length-map links range_of in
    let within : earlier < length links = omega arith in
    let there = place_at links earlier link (slice_get_read links (length links) earlier link refl within is) in
    let own : place_tree link.place ≡ place = same_Some (place_tree link.place) place (sym there ∙ stands) in
    let same : seen ≡ link = get_or_read links earlier seen within seen_is link ∙ sym is in
    gains_once place number links earlier link new is within
    (λ k other at there_too. once k earlier place (place_at links k other at ∙ ap Some there_too) stands)
    (record {
      range = range;
      joined = joined;
      used = used;
      here = λ _. followers ∙ ap (λ (l : TextRange). further l.followers number) same;
      elsewhere = λ apart. absurd (apart own);
    })

-- ---- a range behind all
followed_here : (first : ℕ) (behind : List PlacedRange) (range : PlacedRange) (place : Place) (followers : Followers) (number : ℕ)
    → number ≡ first + length behind → IsFollowed first behind place followers → range.start ≡ place
    → IsFollowed first (behind ++ range ∷ []) place (further followers number)
followed_here first behind range place None number is followed starts =
    let sum = count_append place behind (range ∷ []) in
    let one = count_one place range [] starts in
    (omega arith, (length behind, is, (range, slice_get-push behind range, starts)))
followed_here first behind range place (One other) number is followed starts =
    let sum = count_append place behind (range ∷ []) in
    let one = count_one place range [] starts in
    let before = followed.0 in
    omega arith
followed_here first behind range place Several number is followed starts =
    let sum = count_append place behind (range ∷ []) in
    omega arith

followed_still : (first : ℕ) (behind : List PlacedRange) (range : PlacedRange) (place : Place) (followers : Followers)
    → IsFollowed first behind place followers → range.start ≢ place → IsFollowed first (behind ++ range ∷ []) place followers
followed_still first behind range place None followed apart =
    let sum = count_append place behind (range ∷ []) in
    let none = count_none place range [] apart in
    omega arith
followed_still first behind range place (One other) followed apart =
    let sum = count_append place behind (range ∷ []) in
    let none = count_none place range [] apart in
    let before = followed.0 in
    let there = followed.1.2 in
    (omega arith, (followed.1.0, followed.1.1, (there.0, slice_get-append_left behind (range ∷ []) followed.1.0 there.0 there.1, there.2)))
followed_still first behind range place Several followed apart =
    let sum = count_append place behind (range ∷ []) in
    omega arith

-- each range knows its followers where the one that the further range starts at has gained it
pub AreFollowed-push : (first number : ℕ) (old new : List TextRange) (link : TextRange) → number ≡ first + length old
    → AllZip (GainsFollower (place_tree link.start) number) old new → link.followers ≡ None → link.joined ≡ false
    → AreFollowed first old → AreFollowed first (new ++ link ∷ [])
AreFollowed-push first number [] [] link is gains none unjoined followed =
    (unjoined, subst (λ (f : Followers). IsFollowed (suc first) [] (place_tree link.place) f) (sym none) refl, tt)
AreFollowed-push first number [] (other ∷ new) link is gains none unjoined followed = absurd gains
AreFollowed-push first number (earlier ∷ old) [] link is gains none unjoined followed = absurd gains
AreFollowed-push first number (earlier ∷ old) (other ∷ new) link is gains none unjoined followed = (
  gains.0.joined ∙ followed.0,
  subst (λ (rs : List PlacedRange). IsFollowed (suc first) rs (place_tree other.place) other.followers)
      (sym (ranges_push new link ∙ ap (λ (rs : List PlacedRange). rs ++ range_of link ∷ []) (gained_ranges (place_tree link.start) number old new gains.1)))
      (subst (λ (p : Place). IsFollowed (suc first) (ranges_of old ++ range_of link ∷ []) p other.followers)
      (sym (ap (λ (r : PlacedRange). r.place) gains.0.range)) here),
  AreFollowed-push (suc first) number old new link (omega arith) gains.1 none unjoined followed.2,
)
  where
    here : IsFollowed (suc first) (ranges_of old ++ range_of link ∷ []) (place_tree earlier.place) other.followers
    here = elim (told_place (place_tree earlier.place) (place_tree link.start)) [
      | inl same ↦
          subst (λ (f : Followers). IsFollowed (suc first) (ranges_of old ++ range_of link ∷ []) (place_tree earlier.place) f) (sym (gains.0.here same))
          (followed_here (suc first) (ranges_of old) (range_of link) (place_tree earlier.place) earlier.followers number
          (omega (arith, length-map old range_of)) followed.1 (sym same))
      | inr apart ↦
          subst (λ (f : Followers). IsFollowed (suc first) (ranges_of old ++ range_of link ∷ []) (place_tree earlier.place) f) (sym (gains.0.elsewhere apart))
          (followed_still (suc first) (ranges_of old) (range_of link) (place_tree earlier.place) earlier.followers followed.1 (λ same. apart (sym same)))
    ]
