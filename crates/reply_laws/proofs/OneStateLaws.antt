-- In each state a statement has one reply, and leaves one state.
use Rattle.std.proofs.Common.{◌≡◌, ◌↔◌, ℕ, ◌+◌, inl, inr, List, [], ◌∷◌, ◌++◌, length, map, Option, Some, None, Less, Equal, sym, ap, subst, ◌∙◌}
use Rattle.std.specs.Prelude.{ℤ, true, false, MatchOption, Contains, codes, decimal}
use Rattle.std.specs.Cmp.{IsTotalOrder}
use Rattle.std.specs.Ordering.{ordering_reverse}
use Rattle.std.specs.declared.cmp.Ordering.{Ordering}
use Rattle.lore_base.specs.Databases.{Database}
use Rattle.lore_base.specs.Walks.{edge_cmp}
use Rattle.lore_base.proofs.ListLaws.{AllPairs-unique}
use Rattle.lore_base.proofs.VerdictLaws.{one_first, first_unclear}
use Rattle.dump_text.specs.Dumps.{line_of, name_line, object_line, edge_line, spelled_edge}
use Rattle.lorel_trees.specs.Trees as t
use Rattle.lorel_trees.specs.Trees.{SelectTree, StatementTree}
use Rattle.lorel_bind.specs.Answers.{IsAnswer}
use Rattle.bind_laws.proofs.AnswerLaws.{has_one_answer}
use Rattle.doem_history.specs.Facts.{name_order, object_order}
use Rattle.doem_history.specs.inside.FactLaws.{name_total, object_total, edge_total}
use Rattle.doem_history.specs.Moments.{Moment}
use Rattle.statements.specs.Types.{Cell, Refusal}
use Rattle.lore_db.specs.Types.{Reply, Rows, Past, Lines, Refused}
use Rattle.change_lines.specs.Changes.{Change, gone, come, Precedes, AreChanges, AreChangeLines, change_line}
use Rattle.view_laws.specs.Freshness.{NamedQuery, query_in}
use Rattle.lore_db.specs.States.{AnswersNow}
use Rattle.lore_db.specs.States.{State, AnswersAt, TellsChanges, database_at, StateCause, state_order, AppendsMoment, Does}
use Rattle.lore_db.proofs.AskLaws.{one_moment}
use Rattle.reply_laws.specs.Laws.{PerformsOnce}
use Rattle.reply_laws.proofs.OneReplyLaws.{one_counted, one_performed}

-- of a history that is kept, one answer
one_of_moments : (history : Option (List Moment)) (Answers : Reply → List Moment → Type 0)
    → ((moments : List Moment) (reply other : Reply) → Answers reply moments → Answers other moments → reply ≡ other) → (reply other : Reply)
    → MatchOption history ⊥ (Answers reply) → MatchOption history ⊥ (Answers other) → reply ≡ other
one_of_moments None Answers one reply other h k = absurd h
one_of_moments (Some moments) Answers one reply other h k = one moments reply other h k

-- of a view that is kept, one answer
one_of_view : (query : Option SelectTree) (Answers : Reply → SelectTree → Type 0)
    → ((own : SelectTree) (reply other : Reply) → Answers reply own → Answers other own → reply ≡ other) → (reply other : Reply)
    → MatchOption query ⊥ (Answers reply) → MatchOption query ⊥ (Answers other) → reply ≡ other
one_of_view None Answers one reply other h k = absurd h
one_of_view (Some own) Answers one reply other h k = one own reply other h k

one_shown : (db : Database) (query : SelectTree) (reply other : Reply) → AnswersNow db reply query → AnswersNow db other query → reply ≡ other
one_shown db query reply other h k =
    h.1 ∙ ap (λ (rows : List (List Cell)). Rows rows) (has_one_answer db query h.0 k.0 h.2 k.2) ∙ sym k.1

-- one way in which a history goes on
one_gone : (db : Database) (history : Option (List Moment)) (views : List NamedQuery) (statement : StatementTree) (then : Database) (after later : State)
    → AppendsMoment (record { db = db; history = history; views = views }) statement then after
    → AppendsMoment (record { db = db; history = history; views = views }) statement then later → after ≡ later
one_gone db None views statement then after later h k = h ∙ sym k
one_gone db (Some moments) views statement then after later (inl h) (inl k) = h.1 ∙ sym k.1
one_gone db (Some moments) views statement then after later (inl h) (inr k) = absurd (k.0 h.0)
one_gone db (Some moments) views statement then after later (inr h) (inl k) = absurd (h.0 k.0)
one_gone db (Some moments) views statement then after later (inr h) (inr k) = h.1 ∙ sym k.1

one_selected : (db : Database) (given : ℤ) (query : SelectTree) (moments : List Moment) (reply other : Reply) → AnswersAt db given query reply moments
    → AnswersAt db given query other moments → reply ≡ other
one_selected db given query moments reply other h k =
    let two = one_moment moments given h.number k.number h.moment k.moment h.is k.is in
    let answers = subst (λ (m : Moment). IsAnswer (database_at db m) query h.rows) two.1 h.answers in
    let same = has_one_answer (database_at db k.moment) query h.rows k.rows answers k.answers in
    h.replied ∙ ap (λ (n : ℕ). Past n h.rows) two.0 ∙ ap (λ (rows : List (List Cell)). Past k.number rows) same ∙ sym k.replied

-- ---- what differs
-- two facts aren't below one another, and one that is below isn't of the same place
reversed : {F : Type 0} (order : F → F → Ordering) (total : IsTotalOrder order) (a b : F) → order a b ≡ Less → order b a ≡ Less → ⊥
reversed order total a b h k = let back : Less ≡ ordering_reverse Less = sym h ∙ total.antisymm a b ∙ ap ordering_reverse k in cc

level : {F : Type 0} (order : F → F → Ordering) (total : IsTotalOrder order) (a b : F) → order a b ≡ Equal → order b a ≡ Less → ⊥
level order total a b h k = let back : Equal ≡ ordering_reverse Less = sym h ∙ total.antisymm a b ∙ ap ordering_reverse k in cc

never_both : {F : Type 0} (order : F → F → Ordering) (total : IsTotalOrder order) (a b : Change F) → Precedes order a b → Precedes order b a → ⊥
never_both order total (gone a) (gone b) h k = reversed order total a b h k
never_both order total (come a) (come b) h k = reversed order total a b h k
never_both order total (gone a) (come b) (inl h) k = reversed order total a b h k
never_both order total (gone a) (come b) (inr h) k = level order total a b h k
never_both order total (come a) (gone b) h (inl k) = reversed order total a b h k
never_both order total (come a) (gone b) h (inr k) = level order total b a k h

one_list : {F : Type 0} (order : F → F → Ordering) (total : IsTotalOrder order) (before after : List F) (changes others : List (Change F))
    → AreChanges order before after changes → AreChanges order before after others → changes ≡ others
one_list {F} order total before after changes others h k =
    AllPairs-unique (Precedes order) (never_both order total) changes others h.ascend k.ascend members
  where
    members : (change : Change F) → Contains changes change ↔ Contains others change
    members (gone fact) = (λ at. (k.gone fact).1 ((h.gone fact).0 at), λ at. (h.gone fact).1 ((k.gone fact).0 at))
    members (come fact) = (λ at. (k.come fact).1 ((h.come fact).0 at), λ at. (h.come fact).1 ((k.come fact).0 at))

one_lines : (labels : List (List ℕ)) (before after : Moment) (lines others : List (List ℕ)) → AreChangeLines labels before after lines
    → AreChangeLines labels before after others → lines ≡ others
one_lines labels before after lines others h k =
    let names = one_list name_order name_total before.names after.names h.names k.names h.names_are k.names_are in
    let objects = one_list object_order object_total before.objects after.objects h.objects k.objects h.objects_are k.objects_are in
    let edges = one_list edge_cmp edge_total before.edges after.edges h.edges k.edges h.edges_are k.edges_are in
    h.are ∙ (λ i. map (change_line name_line) (names i) ++ (map (change_line object_line) (objects i)
    ++ (map (change_line (λ edge. edge_line (spelled_edge labels edge))) (edges i)
    ++ line_of (codes "changes") (decimal (length (names i) + length (objects i) + length (edges i))) ∷ []))) ∙ sym k.are

one_told : (db : Database) (first last : ℤ) (moments : List Moment) (reply other : Reply) → TellsChanges db first last reply moments
    → TellsChanges db first last other moments → reply ≡ other
one_told db first last moments reply other h k =
    let begun = one_moment moments first h.two.from k.two.from h.two.before k.two.before h.two.first_is k.two.first_is in
    let ended = one_moment moments last h.two.to k.two.to h.two.after k.two.after h.two.last_is k.two.last_is in
    let are = subst (λ (m : Moment). AreChangeLines db.labels m k.two.after h.lines) begun.1
    (subst (λ (m : Moment). AreChangeLines db.labels h.two.before m h.lines) ended.1 h.are) in
    let same = one_lines db.labels k.two.before k.two.after h.lines k.lines are k.are in
    h.replied ∙ ap (λ (lines : List (List ℕ)). Lines lines) same ∙ sym k.replied

-- ---- one statement
one_done : (before : State) (statement : StatementTree) (reply other : Reply) (after later : State) → Does before statement reply after
    → Does before statement other later → (reply ≡ other) × (after ≡ later)
one_done before (t.history true) reply other after later h k = (one_counted before.db reply other h.0 k.0, h.1 ∙ sym k.1)
one_done before (t.history false) reply other after later h k = (one_counted before.db reply other h.0 k.0, h.1 ∙ sym k.1)
one_done before (t.select_at given query) reply other after later h k = (
  one_of_moments before.history (AnswersAt before.db given query) (one_selected before.db given query) reply other h.1 k.1,
  h.0 ∙ sym k.0,
)
one_done before (t.changes first last) reply other after later h k = (
  one_of_moments before.history (TellsChanges before.db first last) (one_told before.db first last) reply other h.1 k.1,
  h.0 ∙ sym k.0,
)
one_done before (t.watch name query) reply other after later h k = (one_counted before.db reply other h.0 k.0, h.1 ∙ sym k.1)
one_done before (t.unwatch name) reply other after later h k = (one_counted before.db reply other h.0 k.0, h.1 ∙ sym k.1)
one_done before (t.show name) reply other after later h k = (
  one_of_view (query_in before.views name) (AnswersNow before.db) (one_shown before.db) reply other h.1 k.1,
  h.0 ∙ sym k.0,
)
one_done before statement reply other after later (db, does, goes) (left, did, went) =
    let same = one_performed before.db statement reply other db left does did in (
      same.0,
      one_gone before.db before.history before.views statement left after later
          (subst (λ (d : Database). AppendsMoment before statement d after) same.1 goes) went,
    )

pub one_performance : PerformsOnce
one_performance before statement reply other after later (inl h) (inl k) = one_done before statement reply other after later h.1 k.1
one_performance before statement reply other after later (inl h) (inr k) =
    absurd (first_unclear (StateCause before statement) state_order k.0 k.1 h.0)
one_performance before statement reply other after later (inr h) (inl k) =
    absurd (first_unclear (StateCause before statement) state_order h.0 h.1 k.0)
one_performance before statement reply other after later (inr h) (inr k) =
    let same = one_first (StateCause before statement) state_order h.0 k.0 h.1 k.1 in
    (h.2 ∙ ap (λ (r : Refusal). Refused r) same ∙ sym k.2, h.3 ∙ sym k.3)
