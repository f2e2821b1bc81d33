-- A machine that reads backwards accepts the words of the other one read backwards.
use Rattle.std.proofs.Common.{◌≡◌, ◌↔◌, ℕ, ◌+◌, ◌<◌, ◌≤◌, inl, inr, List, [], ◌∷◌, ◌++◌, length, reverse, get_or, All, Some, refl, sym, ap, ◌∙◌, subst, arith}
use Rattle.std.specs.List.{slice_get}
use Rattle.std.proofs.lemmas.List.{reverse-reverse, append_assoc, append-nil, length-append}
use Rattle.std.proofs.lemmas.Grind.{reverse_onto}
use Rattle.std.proofs.lemmas.Option.{slice_get_within, slice_get-get_or}
use Rattle.std.proofs.lemmas.List.Elements.{All-push}
use Rattle.list_laws.proofs.PlaceLaws.{slice_get-push_cases}
use Rattle.path_expr.specs.Types.{Label, States, Leaf}
use Rattle.path_expr.specs.Machines.{Machine, IsIn, Reads, Follows, MovesThrough, Accepts, UpToEnd}
use Rattle.path_expr.specs.inside.Reverses.{Precedes, Reverses}
use Rattle.path_expr.specs.inside.Compiled.{IsSet}

-- the first label of a word comes last when it is read backwards
reverse_first : (label : Label) (word read : List Label) → reverse (label ∷ word) ++ read ≡ reverse word ++ (label ∷ read)
reverse_first label word read = ap (λ (w : List Label). w ++ read) (reverse_onto word label []) ∙ append_assoc (reverse word) (label ∷ []) read

-- only a leaf is followed by a state
pub follows_within : (machine : Machine) (state next : ℕ) → length machine.follow ≡ length machine.leaves → Follows machine state next → state < length machine.leaves
follows_within machine state next paired follows = omega (arith, slice_get_within machine.follow state follows.0 follows.1)

-- for so many states, those that come before each of them
pub record BeforeSoFar (machine : Machine) (follow : List States) (count : ℕ) : Type 0 where
  pub counted : length follow ≡ count
  pub each : (state : ℕ) (states : States) → slice_get follow state ≡ Some states → IsSet states (λ next. Precedes machine next state)
  pub within : All UpToEnd follow

pub before_more : (machine : Machine) (follow : List States) (count : ℕ) (next : States) → BeforeSoFar machine follow count
    → IsSet next (λ other. Precedes machine other count) → UpToEnd next → BeforeSoFar machine (follow ++ next ∷ []) (count + 1)
before_more machine follow count next so_far is within = record {
  counted = omega (arith, so_far.counted, length-append follow (next ∷ []));
  each = λ state states here. elim (slice_get-push_cases follow next state states here) [
    | inl old ↦ so_far.each state states old
    | inr new ↦
        let place : count ≡ state = omega (arith, so_far.counted, new.0) in
        subst (λ (s : ℕ). IsSet states (λ other. Precedes machine other s)) place
        (subst (λ (n : States). IsSet n (λ other. Precedes machine other count)) new.1 is)
  ];
  within = All-push UpToEnd follow next so_far.within within;
}

-- with the states before each state in place of those after it the machine reads backwards
pub reverses : (machine back : Machine) → back.leaves ≡ machine.leaves → BeforeSoFar machine back.follow (length machine.leaves)
    → IsSet back.start (λ state. Precedes machine state 64) → Reverses machine back
reverses machine back same before starts = record {
  leaves = same;
  starts = starts;
  follows = λ state next. (
    λ h. (omega (arith, slice_get_within back.follow state h.0 h.1, before.counted), (before.each state h.0 h.1 next).0 h.2),
    λ h.
        let place : state < length back.follow = omega (arith, h.0, before.counted) in
        let states = get_or back.follow state (record { 0 = 0 }) in
        let here : slice_get back.follow state ≡ Some states = slice_get-get_or back.follow state (record { 0 = 0 }) place in
        (states, here, (before.each state states here next).1 h.1),
  );
}

module _ (labels : List (List ℕ)) (machine back : Machine) (few : length machine.leaves ≤ 64) (turned : Reverses machine back) where
  reads_same : (state : ℕ) (label : Label) → Reads labels back state label → Reads labels machine state label
  reads_same state label reads = (reads.0, subst (λ (ls : List Leaf). slice_get ls state ≡ Some reads.0) turned.leaves reads.1, reads.2)

  reads_back : (state : ℕ) (label : Label) → Reads labels machine state label → Reads labels back state label
  reads_back state label reads = (reads.0, subst (λ (ls : List Leaf). slice_get ls state ≡ Some reads.0) (sym turned.leaves) reads.1, reads.2)

  -- no leaf follows the end
  at_end : length machine.follow ≡ length machine.leaves → (state : ℕ) → Precedes machine 64 state → IsIn machine.start state
  at_end paired state (inl follows) = absurd (omega (arith, slice_get_within machine.follow 64 follows.0 follows.1))
  at_end paired state (inr start) = start.1

  before_end : (other state : ℕ) → other < 64 → Precedes machine other state → Follows machine other state
  before_end other state within (inl follows) = follows
  before_end other state within (inr start) = absurd (omega (arith, start.0))

  -- what is read backwards to the end, and then forwards to the end
  backwards : length machine.follow ≡ length machine.leaves → (word read : List Label) (state next : ℕ) → Precedes machine state next
      → MovesThrough labels back state word 64 → MovesThrough labels machine next read 64
      → (start : ℕ) × IsIn machine.start start × MovesThrough labels machine start (reverse word ++ read) 64
  backwards paired [] read state next precedes run ahead =
      (next, at_end paired next (subst (λ (s : ℕ). Precedes machine s next) run precedes), ahead)
  backwards paired (label ∷ word) read state next precedes run ahead =
      let follows = (turned.follows state run.0).0 run.1.1 in
      let all = backwards paired word (label ∷ read) run.0 state follows.1 run.2
      (next, (reads_same state label run.1.0, before_end state next (omega (arith, follows.0)) precedes), ahead) in
      (all.0, all.1, subst (λ (w : List Label). MovesThrough labels machine all.0 w 64) (sym (reverse_first label word read)) all.2)

  -- what is read forwards to the end, and then backwards to the end
  forwards : (word read : List Label) (state next : ℕ) → Precedes machine state next
      → MovesThrough labels back state read 64 → MovesThrough labels machine next word 64
      → (last : ℕ) × Precedes machine last 64 × MovesThrough labels back last (reverse word ++ read) 64
  forwards [] read state next precedes run same = (state, subst (λ (s : ℕ). Precedes machine state s) same precedes, run)
  forwards (label ∷ word) read state next precedes run ahead =
      let within = slice_get_within machine.leaves next ahead.1.0.0 ahead.1.0.1 in
      let all = forwards word (label ∷ read) next ahead.0 (inl ahead.1.1)
      (state, (reads_back next label ahead.1.0, (turned.follows next state).1 (within, precedes)), run) ahead.2 in
      (all.0, all.1, subst (λ (w : List Label). MovesThrough labels back all.0 w 64) (sym (reverse_first label word read)) all.2)

  pub accepts_backwards : length machine.follow ≡ length machine.leaves → (word : List Label) → Accepts labels back word ↔ Accepts labels machine (reverse word)
  accepts_backwards paired word = (
    λ accepts.
        let all = backwards paired word [] accepts.0 64 ((turned.starts accepts.0).0 accepts.1) accepts.2 refl in
        (all.0, all.1, subst (λ (w : List Label). MovesThrough labels machine all.0 w 64) (append-nil (reverse word)) all.2),
    λ accepts.
        let all = forwards (reverse word) [] 64 accepts.0 (inr (refl, accepts.1)) refl accepts.2 in
        (all.0, (turned.starts all.0).1 all.1, subst (λ (w : List Label). MovesThrough labels back all.0 w 64) (append-nil (reverse (reverse word)) ∙ reverse-reverse word) all.2),
  )
