-- A table that is made, and what it tells of objects.
use Rattle.std.proofs.Common.{◌≡◌, ◌↔◌, ◌<◌, ◌≤◌, ◌+◌, ◌-◌, ℕ, ℤ, inl, inr, List, [], length, get_or, take, AllPairs, FitsSigned, w64, Option, None, Some, IfSome, Result, Ok, Err, IfOk, sym, subst}
use Rattle.std.specs.List.{Contains, slice_get}
use Rattle.std.specs.Ordering.{nat_cmp}
use Rattle.std.specs.declared.cmp.Ordering.TheVariants.{Less}
use Rattle.std.proofs.lemmas.List.{take_more, take_all}
use Rattle.std.proofs.lemmas.List.Elements.{Contains-push_cases}
use Rattle.lore_base.proofs.MemberLaws.{Contains-none}
use Rattle.list_laws.proofs.OrderLaws.{less_from_cmp}
use Rattle.join_tables.specs.Types.{Oid, Label, Edge, Value, Whole, ValueEntry}
use Rattle.join_tables.specs.Tables.{IsTableBy, TellsAll, ArePartners}
use Rattle.join_tables.specs.inside.Numbers.{HasEnds}
use Rattle.join_tables.specs.inside.Leading.{LeadInto}
use Rattle.join_tables.specs.inside.Runs.{HaveTheSame, TakesRun, TellFor}

-- what leads to all ends is the table, in any order
pub table_by : {E : Type 0} (links : List Edge) (entries : List ValueEntry) (word : List Label) (last : Label) (ends : List (ℤ × Oid))
    (result : Result (Option (List (ℤ × Oid))) E) → slice_get word (length word - 1) ≡ Some last → HasEnds entries last ends
    → IfOk result (λ found. IfSome found (LeadInto links word ends)) → IfOk result (λ found. IfSome found (IsTableBy links entries word))
table_by links entries word last ends (Ok (Some rows)) is has lead =
    (last, is, λ number end oid fits found walk. lead number end oid (has number end fits found) walk)
table_by links entries word last ends (Ok None) is has lead = tt
table_by links entries word last ends (Err error) is has lead = tt

pub table_same : (links : List Edge) (entries : List ValueEntry) (word : List Label) (rows others : List (ℤ × Oid)) → HaveTheSame rows others
    → IsTableBy links entries word rows → IsTableBy links entries word others
table_same links entries word rows others same table =
    (table.0, table.1, λ number end oid fits found walk. (same (number, oid)).1 (table.2 number end oid fits found walk))

-- what is told stays told beside more
tells_more : (rows : List (ℤ × Oid)) (value : Value) (old new : List Oid) → ((oid : Oid) → Contains old oid → Contains new oid)
    → TellsAll rows value old → TellsAll rows value new
tells_more rows value old new kept tells =
    record { number = tells.number; fits = tells.fits; is = tells.is; all = λ oid at. kept oid (tells.all oid at) }

module _ (objects : List (Oid × Value)) (rows : List (ℤ × Oid)) where
  pub told_none : (oids : List Oid) → TellFor objects rows [] oids
  told_none oids from value at has = absurd (Contains-none from at)

  pub told_more : (own : List Oid) (old new : List Oid) (i : ℕ) (d : Oid) (number : ℤ) → i < length own → FitsSigned w64 number
      → ((value : Value) → Contains objects (get_or own i d, value) → value ≡ Whole number) → TakesRun rows number old new
      → TellFor objects rows (take i own) old → TellFor objects rows (take (i + 1) own) new
  told_more own old new i d number within fits is run so_far from value at has =
      elim (Contains-push_cases (take i own) (get_or own i d) from (subst (λ (l : List Oid). Contains l from) (take_more own i d within) at)) [
        | inl early ↦ tells_more rows value old new run.kept (so_far from value early has)
        | inr same ↦ record {
          number = number;
          fits = fits;
          is = is value (subst (λ (o : Oid). Contains objects (o, value)) (sym same) has);
          all = run.taken;
        }
      ]

  -- and in order
  pub told_all : (own oids sorted : List Oid) (i : ℕ) → length own ≤ i → TellFor objects rows (take i own) oids
      → AllPairs (λ a b. nat_cmp a.0 b.0 ≡ Less) sorted → ((oid : Oid) → Contains sorted oid ↔ Contains oids oid) → ArePartners objects rows own sorted
  told_all own oids sorted i past so_far ascend members = record {
    ascend = λ j k d below within. less_from_cmp (get_or sorted j d).0 (get_or sorted k d).0 (ascend j k d below within);
    told = λ from value at has. tells_more rows value oids sorted (λ oid there. (members oid).1 there)
        (so_far from value (subst (λ (l : List Oid). Contains l from) (sym (take_all i own past)) at) has);
  }
