-- Pieces that are put in turn: two puts are one put of the joined pieces.
use Rattle.std.proofs.Common.{◌≡◌, ℕ, List, [], ◌++◌, Option, None, Some, Result, Ok, Err, refl, sym, ap, subst, ◌∙◌, arith}
use Rattle.std.specs.Result.{IsErrAnd}
use Rattle.std.specs.Io.KnownBytes.{Appends}
use Rattle.std.proofs.lemmas.List.{append-nil, append_assoc, length-append}
use Rattle.lore_lists.specs.Pieces.{OutState, PassesOn, Takes, Breaks, Puts}

pub Appends-none : (known : Option (List ℕ)) → Appends known known []
Appends-none None = tt
Appends-none (Some xs) = sym (append-nil xs)

pub Appends-then : (a b c : Option (List ℕ)) (xs ys : List ℕ) → Appends a b xs → Appends b c ys → Appends a c (xs ++ ys)
Appends-then None b c xs ys g h = tt
Appends-then (Some p) None c xs ys g h = absurd g
Appends-then (Some p) (Some q) None xs ys g h = absurd h
Appends-then (Some p) (Some q) (Some r) xs ys g h = h ∙ ap (λ l. l ++ ys) g ∙ append_assoc p xs ys

pub PassesOn-none : (a : OutState) → PassesOn a a
PassesOn-none a = record { same_place = refl; more = []; passed = Appends-none a.passed }

PassesOn-then : {a b c : OutState} → PassesOn a b → PassesOn b c → PassesOn a c
PassesOn-then {a} {b} {c} g h = record {
  same_place = h.same_place ∙ g.same_place;
  more = g.more ++ h.more;
  passed = Appends-then a.passed b.passed c.passed g.more h.more g.passed h.passed;
}

-- no bytes at all
pub Takes-none : (a : OutState) → Takes a [] a
Takes-none a = record { put = Appends-none a.bytes; faults = refl; passes = PassesOn-none a }

-- one part of the bytes, then the other
pub Takes-then : {a b c : OutState} {xs ys : List ℕ} → Takes a xs b → Takes b ys c → Takes a (xs ++ ys) c
Takes-then {a} {b} {c} {xs} {ys} g h = record {
  put = Appends-then a.bytes b.bytes c.bytes xs ys g.put h.put;
  faults = h.faults ∙ g.faults;
  passes = PassesOn-then g.passes h.passes;
}

module _ {E : Type 0} {IsMemory : E → Type 0} {fault : E} where
  -- a fault in the first part is one of both
  pub Breaks-early : {a b : OutState} {xs : List ℕ} (ys : List ℕ) → Breaks IsMemory a xs b fault → Breaks IsMemory a (xs ++ ys) b fault
  Breaks-early {a} {b} {xs} ys g = record {
    front = g.front;
    missing = g.missing ++ ys;
    parts = sym (append_assoc g.front g.missing ys) ∙ ap (λ l. l ++ ys) g.parts;
    some_missing = let some = g.some_missing in omega (arith, length-append g.missing ys);
    put = g.put;
    later = g.later;
    cause = g.cause;
    passes = g.passes;
  }

  -- so is one in the second part
  pub Breaks-late : {a b c : OutState} {xs ys : List ℕ} → Takes a xs b → Breaks IsMemory b ys c fault → Breaks IsMemory a (xs ++ ys) c fault
  Breaks-late {a} {b} {c} {xs} {ys} g h = record {
    front = xs ++ h.front;
    missing = h.missing;
    parts = append_assoc xs h.front h.missing ∙ ap (λ l. xs ++ l) h.parts;
    some_missing = h.some_missing;
    put = Appends-then a.bytes b.bytes c.bytes xs h.front g.put h.put;
    later = rw g.faults at h.later;
    cause = rw g.faults at h.cause;
    passes = PassesOn-then g.passes h.passes;
  }

  -- the same bytes, written otherwise
  pub Breaks-same : {a b : OutState} {xs ys : List ℕ} → xs ≡ ys → Breaks IsMemory a xs b fault → Breaks IsMemory a ys b fault
  Breaks-same {a} {b} e g = subst (λ (l : List ℕ). Breaks IsMemory a l b fault) e g

pub Takes-same : {a b : OutState} {xs ys : List ℕ} → xs ≡ ys → Takes a xs b → Takes a ys b
Takes-same {a} {b} e g = subst (λ (l : List ℕ). Takes a l b) e g

-- one part was taken, and a call puts the other
pub Puts-then : {A E : Type 0} (IsMemory : E → Type 0) {a b : OutState} {xs : List ℕ} (c : OutState) (ys : List ℕ) (result : Result A E)
    → Takes a xs b → Puts IsMemory b ys c result → Puts IsMemory a (xs ++ ys) c result
Puts-then IsMemory c ys (Ok x) g h = Takes-then g h
Puts-then IsMemory c ys (Err e) g h = Breaks-late g h

pub Puts-same : {A E : Type 0} (IsMemory : E → Type 0) (a b : OutState) (xs ys : List ℕ) (result : Result A E) → xs ≡ ys
    → Puts IsMemory a xs b result → Puts IsMemory a ys b result
Puts-same IsMemory a b xs ys result e h = subst (λ (l : List ℕ). Puts IsMemory a l b result) e h

-- the fault of a call is handed on
pub Puts-broken : {A E : Type 0} (IsMemory : E → Type 0) {a b : OutState} {xs : List ℕ} {fault : E} (result : Result A E)
    → IsErrAnd result (λ e. e ≡ fault) → Breaks IsMemory a xs b fault → Puts IsMemory a xs b result
Puts-broken IsMemory {a} {b} {xs} (Ok x) handed g = absurd handed
Puts-broken IsMemory {a} {b} {xs} (Err e) handed g = subst (Breaks IsMemory a xs b) (sym handed) g
