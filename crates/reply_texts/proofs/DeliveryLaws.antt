-- Bytes that go to the sink by way of the buffer of replies.
use Rattle.std.proofs.Common.{◌≡◌, ℕ, ◌+◌, ◌<◌, ◌≤◌, List, [], ◌++◌, length, take, Option, None, Some, Result, Ok, Err, refl, sym, ap, subst, ◌∙◌, inr, arith}
use Rattle.std.specs.Result.{OnErr}
use Rattle.std.specs.Io.KnownBytes.{Appends, append_known}
use Rattle.std.proofs.lemmas.List.{append-nil, append_assoc, append_cancel_left, length-append}
use Rattle.std.proofs.Math.Seq.{take-append_seam}
use Rattle.lore_base.specs.Causes.{Rose}
use Rattle.lore_base.specs.Pieces.{OutState, Takes, Breaks}
use Rattle.lore_base.proofs.PutLaws.{Appends-none, Appends-then}
use Rattle.reply_texts.specs.Deliveries.{AppendsProperFront}
use Rattle.reply_texts.specs.inside.Passing.{passing, HandsOn}

-- some bytes were written, and what is held now is the rest of what was held and of those that came
Appends-held : (a b : Option (List ℕ)) (sent before after bytes : List ℕ) → Appends a b sent → sent ++ after ≡ before ++ bytes
    → Appends (append_known a before) (append_known b after) bytes
Appends-held None b sent before after bytes g e = tt
Appends-held (Some p) None sent before after bytes g e = absurd g
Appends-held (Some p) (Some q) sent before after bytes g e =
    ap (λ l. l ++ after) g ∙ append_assoc p sent after ∙ ap (λ l. p ++ l) e ∙ sym (append_assoc p before bytes)

-- bytes that the buffer holds behind the others
pub Takes-held : (sink : ℕ) (held more : List ℕ) (w : Option (List ℕ)) (f : ℕ) → Takes (passing sink w held f) more (passing sink w (held ++ more) f)
Takes-held sink held more w f = record {
  put = Appends-held w w [] held (held ++ more) more (Appends-none w) refl;
  faults = refl;
  passes = record { same_place = refl; more = []; passed = Appends-none w };
}

-- held bytes went on, and no write failed
pub Takes-handed : {a b : OutState} → HandsOn a b → b.faults ≡ a.faults → Takes a [] b
Takes-handed {a} {b} h same = record { put = h.same_bytes; faults = same; passes = h.passes }

-- held bytes went on, and a write failed before any of these were put
pub Breaks-handed : {E : Type 0} (IsMemory : E → Type 0) {a b : OutState} (fault : E) (bytes : List ℕ) → HandsOn a b → 0 < length bytes → a.faults ≤ b.faults
    → Rose a.faults b.faults → Breaks IsMemory a bytes b fault
Breaks-handed IsMemory {a} {b} fault bytes h some later rose = record {
  front = [];
  missing = bytes;
  parts = refl;
  some_missing = some;
  put = h.same_bytes;
  later = later;
  cause = inr rose;
  passes = h.passes;
}

-- a front of the bytes was put, and some of them are held or were not put: a proper front was written
front_written : (a b : Option (List ℕ)) (held bytes front missing sent : List ℕ) → Appends a b sent
    → Appends (append_known a []) (append_known b held) front → front ++ missing ≡ bytes → 0 < length held + length missing → 0 < length bytes
    → AppendsProperFront a b bytes
front_written None b held bytes front missing sent g h e some bytes_some = record { count = 0; part = bytes_some; written = tt }
front_written (Some p) None held bytes front missing sent g h e some bytes_some = absurd g
front_written (Some p) (Some q) held bytes front missing sent g h e some bytes_some =
    let put : p ++ (sent ++ held) ≡ p ++ front =
    sym (append_assoc p sent held) ∙ ap (λ l. l ++ held) (sym g) ∙ h ∙ ap (λ l. l ++ front) (append-nil p) in
    let same : sent ++ held ≡ front = append_cancel_left p (sent ++ held) front put in
    let whole : sent ++ (held ++ missing) ≡ bytes = sym (append_assoc sent held missing) ∙ ap (λ l. l ++ missing) same ∙ e in
    let is_front : sent ≡ take (length sent) bytes = sym (take-append_seam sent (held ++ missing)) ∙ ap (λ l. take (length sent) l) whole in
    record {
      count = length sent;
      part = omega (arith, length-append sent (held ++ missing), length-append held missing, ap length whole);
      written = subst (λ (l : List ℕ). q ≡ p ++ l) is_front g;
    }

module _ (s r f g : ℕ) (a b : Option (List ℕ)) (before after bytes : List ℕ) (empty : before ≡ []) (some : 0 < length bytes) where
  -- a put failed behind an empty buffer
  pub front-broken : {E : Type 0} (IsMemory : E → Type 0) (fault : E) → Breaks IsMemory (passing s a before f) bytes (passing r b after g) fault → AppendsProperFront a b bytes
  front-broken IsMemory fault h =
      let put = subst (λ (l : List ℕ). Appends (append_known a l) (append_known b after) h.front) empty h.put in
      let missing = h.some_missing in
      front_written a b after bytes h.front h.missing h.passes.more h.passes.passed put h.parts (omega arith) some

  -- all was put behind an empty buffer, and some of it is still held
  pub front-held : (q e : ℕ) (m : Option (List ℕ)) (held : List ℕ) → Takes (passing s a before f) bytes (passing q m held e) → HandsOn (passing q m held e) (passing r b after g)
      → 0 < length after → AppendsProperFront a b bytes
  front-held q e m held t h left =
      let put = Appends-then (append_known a before) (append_known m held) (append_known b after) bytes [] t.put h.same_bytes in
      let put' = subst (λ (l : List ℕ). Appends (append_known a l) (append_known b after) (bytes ++ [])) empty put in
      let sent = Appends-then a m b t.passes.more h.passes.more t.passes.passed h.passes.passed in
      front_written a b after bytes (bytes ++ []) [] (t.passes.more ++ h.passes.more) sent put' (append-nil (bytes ++ []) ∙ append-nil bytes) (omega arith) some

pub OnErr-from : {A E P : Type 0} (result : Result A E) → P → OnErr result P
OnErr-from (Ok x) p = tt
OnErr-from (Err e) p = p

pub OnErr-map : {A E : Type 0} (P Q : Type 0) (result : Result A E) → (P → Q) → OnErr result P → OnErr result Q
OnErr-map P Q (Ok x) f p = tt
OnErr-map P Q (Err e) f p = f p
