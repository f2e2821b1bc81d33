-- What is read is within the reads of the touched sets.
use Rattle.std.proofs.Common.{◌≡◌, ◌≤◌, inl, inr, List, [], ◌∷◌, Contains, ap, arith}
use Rattle.std.specs.List.{sum_by, AllZip}
use Rattle.std.proofs.lemmas.List.Elements.{All-contains}
use Rattle.std.proofs.lemmas.List.Sums.{sum_by-cons}
use Rattle.list_laws.proofs.SumLaws.{sum_by-within}
use Rattle.list_laws.proofs.MemberLaws.{All-from_members}
use Rattle.lore_base.specs.TargetSets.{IsLedTo}
use Rattle.dataguide.specs.Types.{Oid, Edge}
use Rattle.set_steps.specs.SetSteps.{reads_of}
use Rattle.set_explorer.specs.Touched.{IsTouched, IsRead}
use Rattle.dataguide.specs.GuideLaws.{ReadsAreWithin, SomeReadsAreWithin}

-- what is read of a set costs no more than the whole set
read-within : (kept : List (List Oid)) (dirty grown : List Oid) (edges : List Edge) (set read : List Oid)
    → IsRead kept dirty grown set read → reads_of edges read ≤ reads_of edges set
read-within kept dirty grown edges set read (inl whole) = omega (arith, ap (reads_of edges) whole)
read-within kept dirty grown edges set read (inr (inr told)) =
    let nothing : reads_of edges read ≡ 0 = ap (reads_of edges) told.1 in
    omega (arith, nothing)
read-within kept dirty grown edges set read (inr (inl from)) =
    let is = from.1.2 in
    sum_by-within _ read set (λ i j d less within same. omega (arith, is.others.ascending i j d less within, ap (λ (o : Oid). o.0) same))
    (All-from_members (Contains set) read (λ oid there. ((is.others.exact oid).0 there).0))

pub reads-within : (kept : List (List Oid)) (dirty grown : List Oid) (edges : List Edge) (sets read : List (List Oid))
    → AllZip (IsRead kept dirty grown) sets read → sum_by (reads_of edges) read ≤ sum_by (reads_of edges) sets
reads-within kept dirty grown edges [] [] each = omega arith
reads-within kept dirty grown edges [] (first ∷ read) each = absurd each
reads-within kept dirty grown edges (set ∷ sets) [] each = absurd each
reads-within kept dirty grown edges (set ∷ sets) (first ∷ read) each =
    omega (
      arith,
      sum_by-cons (reads_of edges) first read,
      sum_by-cons (reads_of edges) set sets,
      read-within kept dirty grown edges set first each.0,
      reads-within kept dirty grown edges sets read each.1,
    )

-- what a dirty object touches, more objects touch
touched-more : (kept : List (List Oid)) (dirty more set : List Oid) → ((oid : Oid) → Contains dirty oid → Contains more oid)
    → IsTouched kept dirty set → IsTouched kept more set
touched-more kept dirty more set holds (inl new) = inl new
touched-more kept dirty more set holds (inr meets) = inr (meets.0, meets.1, holds meets.0 meets.2)

pub reads_are_within : ReadsAreWithin
reads_are_within kept dirty grown more names edges sets before now are reads holds all within =
    let fits = sum_by-within (reads_of edges) reads.touched all reads.are.apart
    (All-from_members (Contains all) reads.touched (λ set there. (
    let both = (reads.are.exact set).0 there in
    within set ((are.exact set).0 both.0) (touched-more kept dirty more set holds both.1)))) in
    omega (arith, reads.counted, reads-within kept dirty grown edges reads.touched reads.read reads.each, fits)

pub some_reads_are_within : SomeReadsAreWithin
some_reads_are_within kept dirty grown more limit names edges before now reads holds all within =
    let fits = sum_by-within (reads_of edges) reads.sets all reads.apart
    (All-from_members (Contains all) reads.sets (λ set there. within set
    (All-contains (IsLedTo names edges) reads.sets set reads.led there)
    (touched-more kept dirty more set holds (All-contains (IsTouched kept dirty) reads.sets set reads.touched there)))) in
    omega (arith, reads.counted, reads-within kept dirty grown edges reads.sets reads.read reads.each, fits)
