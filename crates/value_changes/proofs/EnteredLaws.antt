-- The edges that entered objects before, told from those that are read; and what reading them costs.
use Rattle.std.proofs.Common.{◌≡◌, ◌↔◌, ℕ, ◌+◌, ◌<◌, ◌==◌, Bool, true, Less, inl, inr, List, [], ◌++◌, length, Contains, get_or, refl, sym, ◌∙◌, subst, arith}
use Rattle.std.specs.List.{sum_by}
use Rattle.std.specs.Ordering.{nat_cmp}
use Rattle.std.proofs.lemmas.Bool.Decides.{nat_tests}
use Rattle.std.proofs.lemmas.List.{nil_from_length}
use Rattle.std.proofs.lemmas.List.Elements.{Contains-append_left, Contains-append_right, Contains-append_cases}
use Rattle.lore_base.specs.Databases.{IsLive}
use Rattle.lore_base.proofs.ToldLaws.{told_member, told_edge}
use Rattle.read_costs.specs.Entering.{AreEntering}
use Rattle.read_costs.specs.ReadCosts.{in_reads}
use Rattle.value_changes.specs.Types.{Oid, Edge, Value}
use Rattle.value_changes.specs.Reads.{AreRead, IsValued, ReadsChanged}
use Rattle.value_changes.specs.inside.Sets.{AreSetOf}
use Rattle.value_changes.specs.inside.Touched.{oid_cmp, IsOldGiven, IsOldTouched}
use Rattle.value_changes.specs.inside.Pairs.{AreKept, IsThere}
use Rattle.value_changes.proofs.TouchedLaws.{touched_of, touched-listed}

number_of : (a b : ℕ) → (a == b) ≡ true → a ≡ b
number_of a b h = grind (arith, nat_tests)

-- none is read where a test tells that there is none
pub none_read : {X : Type 0} (read : List X) (test : Bool) → test ≡ (length read == 0) → test ≡ true → read ≡ []
none_read read test is told = nil_from_length read (number_of (length read) 0 (sym is ∙ told))

-- what is kept of those that are read, with the lost ones behind it
pub there_back : (read added lost kept all : List Edge) → AreKept read added kept → all ≡ kept ++ lost
    → (edge : Edge) → Contains all edge ↔ IsThere read added lost edge
there_back read added lost kept all keeps is edge = (
  λ at. elim (Contains-append_cases kept lost edge (subst (λ (l : List Edge). Contains l edge) is at)) [
    | inl stays ↦ inr ((keeps.exact edge).0 stays)
    | inr gone ↦ inl gone
  ],
  λ h. subst (λ (l : List Edge). Contains l edge) (sym is) (elim h [
    | inl gone ↦ Contains-append_right kept lost edge gone
    | inr stays ↦ Contains-append_left kept lost edge ((keeps.exact edge).1 stays)
  ]),
)

-- of the edges to objects with an atomic value these are those that entered the objects touched
pub entered_before : (objects objects_then : List (Oid × Value)) (edges before lost fresh added : List Edge) (oids valued : List Oid)
    (entering all : List Edge) → AreRead edges before lost added → ((edge : Edge) → Contains lost edge → Contains before edge)
    → ((edge : Edge) → Contains before edge → IsLive objects edge.child)
    → AreSetOf oid_cmp (IsOldTouched objects objects_then lost fresh oids) valued
    → AreEntering edges valued entering → ((edge : Edge) → Contains all edge ↔ IsThere entering added lost edge)
    → (edge : Edge) → IsValued objects objects_then edge.child
    → Contains all edge ↔ (Contains before edge × Contains (touched_of lost fresh oids) edge.child)
entered_before objects objects_then edges before lost fresh added oids valued entering all read lost_before live values enters there edge atomic =
    let touches = touched-listed lost fresh oids edge.child in (
      λ at. elim ((there edge).0 at) [
        | inl gone ↦ (lost_before edge gone, touches.1 (inr (inl (edge, gone, refl))))
        | inr (now, old) ↦
            let enters_now = (enters.exact edge).0 now in (
              elim (told_member told_edge before edge) [
                | inl was ↦ was
                | inr new ↦ absurd (old ((read.added_exact edge).1 (enters_now.0, new)))
              ],
              touches.1 (elim ((values.exact edge.child).0 enters_now.1) [
                | inl one ↦ inl one
                | inr child ↦ inr child.0
              ]),
            )
      ],
      λ h. (there edge).1 (elim (told_member told_edge edges edge) [
        | inl now ↦ inr (
          (enters.exact edge).1 (
            now,
            (values.exact edge.child).1 (elim (touches.0 h.1) [
              | inl one ↦ inl one
              | inr child ↦ inr (child, (live edge h.0, atomic))
            ]),
          ),
          λ new. ((read.added_exact edge).0 new).1 h.0,
        )
        | inr away ↦ inl (read.others_lost edge (h.0, away))
      ]),
    )

less_below : (a b : ℕ) → nat_cmp a b ≡ Less → a < b
less_below a b less = grind (arith, nat_tests)

-- those of the objects touched that were read are the changed ones
pub touched_read : (edges lost fresh : List Edge) (given objects objects_then : List (Oid × Value)) (oids valued : List Oid) (old now : ℕ)
    → AreSetOf oid_cmp (IsOldGiven objects objects_then given) oids
    → AreSetOf oid_cmp (IsOldTouched objects objects_then lost fresh oids) valued
    → now ≡ old + sum_by (in_reads edges) valued → ReadsChanged edges lost fresh given objects objects_then old now
touched_read edges lost fresh given objects objects_then oids valued old now gives values counted = record {
  oids = valued;
  exact = record {
    ascending = λ i j d low within. less_below (get_or valued i d).0 (get_or valued j d).0 (values.ascend i j d low within);
    exact = λ oid. (
      λ at. elim ((values.exact oid).0 at) [
        | inl one ↦ (let h = (gives.exact oid).0 one in (inl h.0, h.1))
        | inr child ↦ (
          inr (elim child.0 [
            | inl gone ↦ (gone.0, inl gone.1, gone.2)
            | inr come ↦ (come.0, inr come.1, come.2)
          ]),
          child.1,
        )
      ],
      λ changed. (values.exact oid).1 (elim changed.0 [
        | inl is_given ↦ inl ((gives.exact oid).1 (is_given, changed.1))
        | inr entered ↦ inr (
          elim entered.1 [
            | inl gone ↦ inl (entered.0, gone, entered.2)
            | inr come ↦ inr (entered.0, come, entered.2)
          ],
          changed.1,
        )
      ]),
    );
  };
  counted = counted;
}
