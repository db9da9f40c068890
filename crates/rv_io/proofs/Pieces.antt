-- What reads and writes of one piece after another come to.
use Rattle.std.proofs.Common.{◌≡◌, ◌<◌, ◌≤◌, ◌+◌, ◌-◌, take, drop, ℕ, List, [], ◌++◌, length, Option, Some, None, sym, ap, ◌∙◌, length-append, length-take, length-drop, take-append-drop, subst, arith, append-nil}
use Rattle.std.specs.Io.KnownBytes.{Consumes, Appends, Keeps}
use Rattle.std.proofs.KnownBytes.{Consumes-trans}
use Rattle.std.proofs.Math.Seq.{take-add}
use Rattle.std.proofs.lemmas.List.{take-take, take_at, drop-drop, append_assoc}
use Rattle.rv_io.specs.declared.reading.ReadError.{ReadError}
use Rattle.rv_io.specs.declared.reading.ReadError.TheVariants.{Fault, TooLong, NoMemory}
use Rattle.rv_io.specs.Outside.{Told}
use Rattle.rv_io.specs.Reading.{TakesOn, RefusesMore}
use Rattle.rv_io.specs.Writing.{Grows, HasPassed}

-- what was taken after others is taken with them
taken_more : (start old new : Option (List ℕ)) (before : List ℕ) (as_many : ℕ → Type 0) → Consumes start old before → (t : TakesOn old new (λ n. as_many (length before + n))) → TakesOn start new as_many
taken_more start old new before as_many c t = record {
  taken = before ++ t.taken;
  consumed = Consumes-trans start old new before t.taken c t.consumed;
  count = subst as_many (sym (length-append before t.taken)) t.count;
}

-- a refusal after some pieces is one of the whole
pub refused_later : (start old new : Told) (before : List ℕ) (limit : ℕ) (error : ReadError) → Consumes start.rest old.rest before → start.faults ≤ old.faults → RefusesMore old new (length before) limit error → RefusesMore start new 0 limit error
refused_later start old new before limit Fault c l r = (omega (arith, r.0, l), taken_more start.rest old.rest new.rest before (λ n. 0 + n ≤ limit) c (shifted r.1))
  where
    shifted : TakesOn old.rest new.rest (λ n. length before + n ≤ limit) → TakesOn old.rest new.rest (λ n. 0 + (length before + n) ≤ limit)
    shifted t = record { taken = t.taken; consumed = t.consumed; count = omega (arith, t.count) }
refused_later start old new before limit (TooLong given) c l r = (r.0, taken_more start.rest old.rest new.rest before (λ n. 0 + n ≡ limit + 1) c (shifted r.1))
  where
    shifted : TakesOn old.rest new.rest (λ n. length before + n ≡ limit + 1) → TakesOn old.rest new.rest (λ n. 0 + (length before + n) ≡ limit + 1)
    shifted t = record { taken = t.taken; consumed = t.consumed; count = omega (arith, t.count) }
refused_later start old new before limit NoMemory c l r = taken_more start.rest old.rest new.rest before (λ n. (0 < 0 + n) × (0 + n ≤ limit)) c (shifted r)
  where
    shifted : TakesOn old.rest new.rest (λ n. (0 < length before + n) × (length before + n ≤ limit)) → TakesOn old.rest new.rest (λ n. (0 < 0 + (length before + n)) × (0 + (length before + n) ≤ limit))
    shifted t = record { taken = t.taken; consumed = t.consumed; count = (omega (arith, t.count.0), omega (arith, t.count.1)) }

-- what grew by some bytes and then by others grew by both
grows_on : (a b c : Option (List ℕ)) (first second : List ℕ) → Grows a b first → Grows b c second → Grows a c (first ++ second)
grows_on a b None first second p q = tt
grows_on a None (Some zs) first second p q = absurd q
grows_on None (Some ys) (Some zs) first second p q = absurd p
grows_on (Some xs) (Some ys) (Some zs) first second p q = q ∙ ap (λ bs. bs ++ second) p ∙ append_assoc xs first second

-- where nothing was taken nothing grew
pub grows_not : (a : Option (List ℕ)) → Grows a a []
grows_not None = tt
grows_not (Some xs) = sym (append-nil xs)

-- one more write
pub written_more : (a b c : Option (List ℕ)) (bytes : List ℕ) (sent count : ℕ) → sent ≤ length bytes → count ≤ length bytes - sent → Grows a b (take sent bytes) → Grows b c (take count (take (length bytes - sent) (drop sent bytes))) → Grows a c (take (sent + count) bytes)
written_more a b c bytes sent count l k p q = subst (Grows a c) joined (grows_on a b c _ _ p q)
  where
    joined : take sent bytes ++ take count (take (length bytes - sent) (drop sent bytes)) ≡ take (sent + count) bytes
    joined = ap (λ zs. take sent bytes ++ zs) (take-take count (length bytes - sent) (drop sent bytes) k) ∙ sym (take-add sent count bytes)

-- a read from memory gives the front of what is left
pub read_front : (xs got tail : List ℕ) (at n : ℕ) → at + n ≤ length xs → got ≡ take ((at + n) - at) (drop at xs) → drop at xs ≡ take n (got ++ tail) ++ drop (at + n) xs
read_front xs got tail at n l e =
    let k : (at + n) - at ≡ n = omega arith in
    let g : got ≡ take n (drop at xs) = e ∙ ap (λ m. take m (drop at xs)) k in
    let long : length got ≡ n = omega (arith, ap length g, length-take n (drop at xs), length-drop at xs) in
    let whole : take n (got ++ tail) ≡ take n (drop at xs) = take_at got tail n long ∙ g in
    sym (ap (λ zs. zs ++ drop (at + n) xs) whole ∙ ap (λ zs. take n (drop at xs) ++ zs) (sym (drop-drop n at xs)) ∙ take-append-drop n (drop at xs))

-- bytes that were kept when they were flushed
flushed : (a b c : Option (List ℕ)) (bytes : List ℕ) → Appends a b bytes → Keeps b c → Appends a c bytes
flushed None b c bytes p k = tt
flushed (Some xs) None c bytes p k = absurd p
flushed (Some xs) (Some ys) None bytes p k = absurd k
flushed (Some xs) (Some ys) (Some zs) bytes p k = k ∙ p

-- nothing was passed on
kept : (a b : Option (List ℕ)) → Keeps a b → Appends a b []
kept None b k = tt
kept (Some xs) None k = absurd k
kept (Some xs) (Some ys) k = k ∙ sym (append-nil xs)

pub passed_some : (a b c : Option (List ℕ)) (bytes : List ℕ) (n : ℕ) → n ≤ length bytes → Appends a b (take n bytes) → Keeps b c → HasPassed a c bytes
passed_some a b c bytes n l p k = record { count = n; within = l; once = flushed a b c (take n bytes) p k }

pub passed_none : (a b : Option (List ℕ)) (bytes : List ℕ) → Keeps a b → HasPassed a b bytes
passed_none a b bytes k = record { count = 0; within = omega arith; once = kept a b k }
