-- A chain that begins with a transposition and a composition, `R^ * S`, whose operands are evaluated before both operators.
-- 1. Its list of links is the first one and the others (`split`).
-- 2. Its meaning has the answer of the chain, since a transposition is never refused, and costs no more (`start_alike`,
--    `chain_alike`).
-- 3. An evaluation that ends as one meaning ends as another that is alike (`ends_alike`).
-- 4. The composition may be performed at the cost of both (`dearer_performs`).
use Rattle.std.proofs.Common.{◌≡◌, ◌≤◌, ◌<◌, ◌+◌, ◌-◌, ◌∙◌, ℕ, List, [], ◌∷◌, length, take, drop, get_or, Result, Ok, Err, IfOk, IfErr, refl, sym, ap, subst, arith}
use Rattle.std.proofs.lemmas.List.{take_all}
use Rattle.rel_model.specs.Relation.{Relation}
use Rattle.rel_model.specs.Worker.{Worker}
use Rattle.rel_slices.specs.declared.thin.Value.{Value}
use Rattle.lang_model.specs.declared.syntax.Expr.{Expr}
use Rattle.lang_model.specs.declared.syntax.Link.{Link}
use Rattle.lang_model.specs.declared.syntax.Op2.TheVariants.{Times}
use Rattle.lang_model.specs.declared.syntax.Place.{Place}
use Rattle.lang_model.specs.Mean.{Around, mean, mean_by, linked, turned}
use Rattle.lang_model.specs.Outcomes.{Answer, Got, Not, Came, Cost, Operation, Makes, Refuses, and_then, following, with_turns}
use Rattle.lang_model.specs.Rooms.{plain_cost}
use Rattle.lang_model.specs.State.{State}
use Rattle.rel_model.specs.Operators.{transposed_by}
use Rattle.rv_eval.specs.declared.halt.Halt.{Halt}
use Rattle.rv_eval.specs.Ends.{HasHalted, Ends, Performs}
use Rattle.rv_eval.specs.declared.here.Start.{Start}
use Rattle.rv_eval.specs.Turned.{dearer, turned_linked, mean_start, StartsTurned}

-- ---- the links
-- the first of some links, and the others
pub split : (ls more : List Link) (l d : Link) → 0 < length ls → l ≡ get_or ls 0 d → more ≡ take (length ls - 1) (drop 1 ls) → ls ≡ l ∷ more
split [] more l d h e m = absurd (omega (arith, h))
split (x ∷ xs) more l d h e m =
    let rest : more ≡ xs = m ∙ take_all (length (x ∷ xs) - 1) xs (omega arith) in
    ap (λ y. y ∷ xs) (sym e) ∙ ap (λ ys. l ∷ ys) (sym rest)

-- ---- meanings that are alike
-- both have one answer, and the first costs no more
pub record Alike (leaf : ℕ) {T : Type 0} (x y : Came T) : Type 0 where
  pub answer : x.answer ≡ y.answer
  pub cost : x.cost leaf ≤ y.cost leaf

-- what is owed within a cost is owed within a greater one
owes_alike : {X : Type 0} (a b start less more : ℕ) (owing : X → ℕ) (r : Result X Halt) → less ≤ more → IfOk r (λ x. b + owing x ≤ a + (start + less)) → IfOk r (λ x. b + owing x ≤ a + (start + more))
owes_alike a b start less more owing (Ok x) l o = omega (arith, l, o)
owes_alike a b start less more owing (Err h) l o = tt

-- what ends as one meaning ends as another that is alike
pub ends_alike : {leaf : ℕ} {T X : Type 0} {old new : Worker} {before left start : ℕ} {x y : Came T} {is : X → T} {owing : X → ℕ} (r : Result X Halt)
    → Alike leaf x y → Ends leaf old new before left start x is owing r → Ends leaf old new before left start y is owing r
ends_alike {leaf} {old = old} {new = new} {left = left} {start = start} {x = x} {y = y} {is = is} {owing = owing} r a e = record {
  value = subst (λ z. IfOk r (λ v. z ≡ Got (is v) left)) a.answer e.value;
  halted = subst (λ z. IfErr r (HasHalted old new z)) a.answer e.halted;
  keeps = e.keeps;
  room = (let m : new.made ≤ old.made + x.cost leaf = e.room in omega (arith, m, a.cost));
  owes = owes_alike old.made new.made start (x.cost leaf) (y.cost leaf) owing r a.cost e.owes;
  turns = e.turns;
}

-- ---- the start of a chain
-- what the composition comes to, and what follows it
linked_alike : (leaf c r : ℕ) (o : Operation) (dear : Cost) (k : ℕ) (next : Relation → ℕ → Came Relation)
    → ((following (with_turns (dearer dear o) k).answer next).answer ≡ (following (with_turns o k).answer next).answer)
    × (c + (r + (with_turns (dearer dear o) k).cost leaf) + (following (with_turns (dearer dear o) k).answer next).cost leaf
    ≤ c + dear leaf + (r + ((with_turns o k).cost leaf + (following (with_turns o k).answer next).cost leaf)))
linked_alike leaf c r (Makes x cost) dear k next = (refl, omega arith)
linked_alike leaf c r (Refuses why) dear k next = (refl, omega arith)

-- what the second operand comes to
second_alike : (leaf c r : ℕ) (b : Answer Relation) (made : Relation → Operation) (dear : Cost) (next : Relation → ℕ → Came Relation)
    → ((following (following b (λ q k. with_turns (dearer dear (made q)) k)).answer next).answer ≡ (following b (λ q k. and_then (with_turns (made q) k) next)).answer)
    × (c + (r + (following b (λ q k. with_turns (dearer dear (made q)) k)).cost leaf) + (following (following b (λ q k. with_turns (dearer dear (made q)) k)).answer next).cost leaf
    ≤ c + dear leaf + (r + (following b (λ q k. and_then (with_turns (made q) k) next)).cost leaf))
second_alike leaf c r (Got q k) made dear next = linked_alike leaf c r (made q) dear k next
second_alike leaf c r (Not why) made dear next = (refl, omega arith)

module _ (at : Place) (times : ℕ) (right : ℕ → Came Relation) (next : Relation → ℕ → Came Relation) where
  -- both operands, and then both operators
  abbrev late : Relation → ℕ → Came Relation
  late r m = and_then (right m) (λ q k. with_turns (turned_linked at times r q) k)

  -- the rest of the chain after the transposition
  abbrev rest : Relation → ℕ → Came Relation
  rest r m = and_then (right m) (λ q k. and_then (with_turns (linked at Times r q) k) next)

  -- what the first operand comes to
  first_alike : (leaf c : ℕ) (a : Answer Relation)
      → ((following (following a late).answer next).answer ≡ (following (following a (λ r m. with_turns (turned times r) m)).answer rest).answer)
      × (c + (following a late).cost leaf + (following (following a late).answer next).cost leaf
      ≤ c + (following a (λ r m. with_turns (turned times r) m)).cost leaf + (following (following a (λ r m. with_turns (turned times r) m)).answer rest).cost leaf)
  unfolding turned
  first_alike leaf c (Got r m) = second_alike leaf c ((right m).cost leaf) (right m).answer (λ q. linked at Times (transposed_by times r) q) (plain_cost r.rows r.cols) next
  first_alike leaf c (Not why) = (refl, omega arith)

  pub start_alike : (leaf : ℕ) (x : Came Relation) → Alike leaf (and_then (and_then x late) next) (and_then (and_then x (λ r m. with_turns (turned times r) m)) rest)
  start_alike leaf x = let both = first_alike leaf (x.cost leaf) x.answer in record { answer = both.0; cost = both.1 }

-- so the chain costs no less than its start and the other links
pub chain_alike : (a : Around) (s : State) (first : Expr) (ls : List Link) (start : Start) (n leaf : ℕ) → StartsTurned first ls start
    → Alike leaf (and_then (mean_start a s start n) (λ t j. mean_by a s t start.more.now j)) (and_then (mean a s first n) (λ r m. mean_by a s r ls m))
chain_alike a s first ls start n leaf h =
    let x = mean a s start.of.now n in
    let link = start.link.now in
    let next : Relation → ℕ → Came Relation = λ t j. mean_by a s t start.more.now j in
    let step : Relation → ℕ → Came Relation = λ r m. with_turns (turned start.times r) m in
    let e = ap (λ z. and_then z (λ r m. mean_by a s r ls m)) (h.means a s n)
    ∙ ap (λ ks. and_then (and_then x step) (λ r m. mean_by a s r ks m)) h.links
    ∙ ap (λ o. and_then (and_then x step) (λ r m. and_then (mean a s link.right m) (λ q k. and_then (with_turns (linked link.at o r q) k) next))) h.composes in
    subst (λ z. Alike leaf (and_then (mean_start a s start n) next) z) (sym e) (start_alike link.at start.times (mean a s link.right) next leaf x)

-- ---- the operation
-- what performs an operation performs it at a greater cost
pub dearer_performs : {leaf : ℕ} {old new : Worker} (o : Operation) (dear : Cost) {r : Result Value Halt} → Performs leaf old new o r → Performs leaf old new (dearer dear o) r
dearer_performs (Makes x cost) dear {r = r} p = record { ends = ends_alike r (record { answer = refl; cost = omega arith }) p.ends; fits = p.fits }
dearer_performs (Refuses why) dear p = p
