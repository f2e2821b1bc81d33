-- What is told of statements that restore or set something: whether a text is the dump of a valid database, whether a
-- database is new, and whether a number is a limit.
use Rattle.std.proofs.Common.{◌≡◌, ℕ, ◌⊎◌, inl, inr, List, [], ◌∷◌, length, refl, sym, ap, subst, arith}
use Rattle.std.specs.Prelude.{ℤ, pos, negsuc}
use Rattle.std.proofs.lemmas.Bool.{cases_eq}
use Rattle.lore_base.specs.Databases.{Database, IsValid, new_database}
use Rattle.lore_base.specs.declared.modes.Mode.{Mode}
use Rattle.lore_base.specs.declared.modes.Mode.TheVariants.{Auto, Top, Bottom, Guided}
use Rattle.lore_base.proofs.ToldLaws.{IsTold, told_same, told_both, told_below}
use Rattle.guide_laws.proofs.TargetSetLaws.{target_sets_exist}
use Rattle.guide_laws.proofs.FitLaws.{fits_are_told, guides_fit_or_pass}
use Rattle.lorel_trees.specs.declared.dump_trees.DumpTree.{DumpTree}
use Rattle.lorel_trees.specs.Trees as t
use Rattle.dump_text.specs.Restores.{IsDumpOf}
use Rattle.dump_text.proofs.ToldLaws.{dump_or_bad}
use Rattle.lore_store.specs.Stores.{IsLimit}
use Rattle.statements.specs.Types.{NODES, START_NODES}
use Rattle.lore_db.specs.Types.{Reply, Changed}
use Rattle.statements.specs.Statements.{IsNoDump, IsNoLimit, Restores}
use Rattle.statements.proofs.DumpStatementLaws.{crowded_no_dump}
use Rattle.statements.proofs.RangeLaws.{no_count}

-- ---- texts
-- a text is the dump of a valid database, or of none
pub some_dumped : (text : DumpTree) → ((db : Database) × IsDumpOf text db × IsValid db) ⊎ IsNoDump (t.restore text)
some_dumped text = elim (dump_or_bad text) [
  | inr bad ↦ inr (λ db dumped valid. bad db dumped valid.restorable)
  | inl (db, dumped, sound) ↦ elim (guides_fit_or_pass db.nodes db.graph.names db.graph.edges sound.rooted.well_formed.ordered.names_ascend) [
    | inl fits ↦ inl (db, dumped, record { restorable = sound; fits = fits })
    | inr passed ↦ inr (crowded_no_dump text db dumped sound passed)
  ]
]

pub told_no_dump : (text : DumpTree) → IsTold (IsNoDump (t.restore text))
told_no_dump text = elim (some_dumped text) [
  | inl (db, dumped, valid) ↦ inr (λ none. none db dumped valid)
  | inr none ↦ inl none
]

pub some_restored : (text : DumpTree) → (IsNoDump (t.restore text) → ⊥)
    → (reply : Reply) × (after : Database) × Restores text reply after × IsValid after
some_restored text dumped = elim (some_dumped text) [
  | inr none ↦ absurd (dumped none)
  | inl (db, is, valid) ↦ (
      let all = target_sets_exist db.graph.names db.graph.edges in (
        Changed (length db.graph.objects) (length db.graph.edges) (length all.0),
        db,
        (is, valid, (all.0, all.1, refl)),
        valid,
      ))
]

-- ---- the new database
cons_nil : {A : Type 0} (first : A) (others : List A) → first ∷ others ≡ [] → ⊥
cons_nil first others same = cc

told_empty : {A : Type 0} (list : List A) → IsTold (list ≡ [])
told_empty [] = inl refl
told_empty (first ∷ others) = inr (cons_nil first others)

abbrev IsAuto : Mode → Type 0
IsAuto Auto = Unit {0}
IsAuto _ = ⊥

told_auto : (mode : Mode) → IsTold (mode ≡ Auto)
told_auto Auto = inl refl
told_auto Top = inr (λ is. subst IsAuto (sym is) tt)
told_auto Bottom = inr (λ is. subst IsAuto (sym is) tt)
told_auto Guided = inr (λ is. subst IsAuto (sym is) tt)

-- a database of nothing, where nothing is set
pub record HasNothing (db : Database) : Type 0 where
  pub labels : db.labels ≡ []
  pub names : db.graph.names ≡ []
  pub objects : db.graph.objects ≡ []
  pub edges : db.graph.edges ≡ []
  pub next : db.graph.next ≡ 1
  pub nodes : db.nodes ≡ START_NODES
  pub mode : db.mode ≡ Auto

pub nothing_new : (db : Database) → HasNothing db → db ≡ new_database
nothing_new db is = λ i. record {
  labels = is.labels i;
  graph = record { names = is.names i; objects = is.objects i; edges = is.edges i; next = is.next i };
  nodes = is.nodes i;
  mode = is.mode i;
}

pub new_nothing : (db : Database) → db ≡ new_database → HasNothing db
new_nothing db is = record {
  labels = ap (λ (d : Database). d.labels) is;
  names = ap (λ (d : Database). d.graph.names) is;
  objects = ap (λ (d : Database). d.graph.objects) is;
  edges = ap (λ (d : Database). d.graph.edges) is;
  next = ap (λ (d : Database). d.graph.next) is;
  nodes = ap (λ (d : Database). d.nodes) is;
  mode = ap (λ (d : Database). d.mode) is;
}

pub told_new : (db : Database) → IsTold (db ≡ new_database)
told_new db =
    told_same
    (λ all. nothing_new db (record {
      labels = all.0;
      names = all.1.0;
      objects = all.1.1.0;
      edges = all.1.1.1.0;
      next = all.1.1.1.1.0;
      nodes = all.1.1.1.1.1.0;
      mode = all.1.1.1.1.1.1;
    }))
    (λ is. let all = new_nothing db is in (all.labels, (all.names, (all.objects, (all.edges, (all.next, (all.nodes, all.mode)))))))
    (told_both (told_empty db.labels) (told_both (told_empty db.graph.names) (told_both (told_empty db.graph.objects)
    (told_both (told_empty db.graph.edges)
    (told_both (cases_eq db.graph.next 1) (told_both (cases_eq db.nodes START_NODES) (told_auto db.mode)))))))

-- ---- what is told of a limit
told_limit : (db : Database) (limit : ℕ) → IsTold (IsLimit db limit)
told_limit db limit = elim (told_below limit 1) [
  | inl low ↦ inr (λ is. omega (arith, low, is.low))
  | inr low ↦ elim (told_below NODES limit) [
    | inl high ↦ inr (λ is. omega (arith, high, is.high))
    | inr high ↦ elim (fits_are_told limit db.graph.names db.graph.edges) [
      | inl fits ↦ inl (record { low = omega (arith, low); high = omega (arith, high); fits = fits })
      | inr crowded ↦ inr (λ is. crowded is.fits)
    ]
  ]
]

-- a number is one limit, or none
pub no_limit : (db : Database) (limit : ℕ) → (IsLimit db limit → ⊥) → IsNoLimit db (pos limit)
no_limit db limit none other is =
    let same : limit ≡ other = cc in
    subst (λ (n : ℕ). IsLimit db n → ⊥) same none

pub told_no_limit : (db : Database) (nodes : ℤ) → IsTold (IsNoLimit db nodes)
told_no_limit db (pos limit) = elim (told_limit db limit) [
  | inl is ↦ inr (λ none. none limit refl is)
  | inr none ↦ inl (no_limit db limit none)
]
told_no_limit db (negsuc number) = inl (λ limit is. absurd (no_count number limit is))

-- the limit that a number is
pub record GivesLimit (db : Database) (nodes : ℤ) : Type 0 where
  pub limit : ℕ
  pub is : nodes ≡ pos limit
  pub within : IsLimit db limit

pub some_limit : (db : Database) (nodes : ℤ) → (IsNoLimit db nodes → ⊥) → GivesLimit db nodes
some_limit db (pos limit) within = elim (told_limit db limit) [
  | inl is ↦ record { limit = limit; is = refl; within = is }
  | inr none ↦ absurd (within (no_limit db limit none))
]
some_limit db (negsuc number) within = absurd (within (λ limit is. absurd (no_count number limit is)))
