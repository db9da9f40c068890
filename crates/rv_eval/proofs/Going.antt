-- How an evaluation goes on: what it still has to do, and what it spent so far. Each step of the code is one lemma here.
use Rattle.std.proofs.Common.{◌≡◌, ◌≤◌, ◌+◌, max, ◌∙◌, ◌⊎◌, inl, inr, ℕ, refl, sym, ap, subst, arith, Result, Ok, Err, IfOk, IfErr, OnOk}
use Rattle.lang_model.specs.declared.faults.TypeFault.{TypeFault}
use Rattle.rel_model.specs.declared.Lack.TheVariants.{Full, NoMemory}
use Rattle.rel_model.specs.Worker.{Worker, Keeps, Rose}
use Rattle.rel_model.specs.Relation.{Relation}
use Rattle.rel_model.proofs.Workers.{keeps_itself, keeps_trans}
use Rattle.rv_eval.specs.declared.halt.Halt.{Halt}
use Rattle.rv_eval.specs.declared.halt.Halt.TheVariants.{Ill as ILL, Size as SIZE, Turns as TURNS, Lack as LACK}
use Rattle.lang_model.specs.Outcomes.{Refusal, Ill, Answer, Got, Not, Came, got, refused, following, and_then, Operation, Makes, Refuses, with_turns}
use Rattle.rv_eval.specs.Ends.{HasHalted, Ends}

-- ---- causes
pub rose_before : (a b c : ℕ) → a ≤ b → Rose b c → Rose a c
rose_before a b c h r = grind (arith, h, r)

halted_before : {T : Type 0} (old mid new : Worker) (a : Answer T) (h : Halt) → old.misses ≤ mid.misses → HasHalted mid new a h → HasHalted old new a h
halted_before old mid new a (ILL f) m c = c
halted_before old mid new a (SIZE at w) m c = c
halted_before old mid new a (TURNS at) m c = c
halted_before old mid new a (LACK Full) m c = rose_before old.misses mid.misses new.misses m c
halted_before old mid new a (LACK NoMemory) m c = tt

halted_through : {T U : Type 0} (old new : Worker) (a : Answer U) (next : U → ℕ → Came T) (h : Halt) → HasHalted old new a h → HasHalted old new (following a next).answer h
halted_through old new a next (ILL f) c = ap (λ x. (following x next).answer) c
halted_through old new a next (SIZE at w) c = ap (λ x. (following x next).answer) c
halted_through old new a next (TURNS at) c = ap (λ x. (following x next).answer) c
halted_through old new a next (LACK Full) c = c
halted_through old new a next (LACK NoMemory) c = tt

halted_ends : {T X : Type 0} (old mid new : Worker) (a : Answer T) (r : Result X Halt) → old.misses ≤ mid.misses → IfErr r (HasHalted mid new a) → IfErr r (HasHalted old new a)
halted_ends old mid new a (Ok x) m c = tt
halted_ends old mid new a (Err h) m c = halted_before old mid new a h m c

-- ---- going on
-- Where an evaluation stands: what is left to do has its answer, and with what it spent so far its cost. What it goes on
-- with owes so many nodes at most, and they too are within what was spent, beyond what was owed at the start.
pub record Goes (leaf : ℕ) {T : Type 0} (old now : Worker) (before left start owed : ℕ) (total rest : Came T) : Type 0 where
  pub spent : ℕ
  pub same_answer : total.answer ≡ rest.answer
  pub same_cost : total.cost leaf ≡ spent + rest.cost leaf
  pub keeps : Keeps old now
  pub room : now.made ≤ old.made + spent
  pub owes : now.made + owed ≤ old.made + (start + spent)
  pub turns : left ≤ before

-- at first
pub goes_start : {leaf : ℕ} {T : Type 0} (w : Worker) (n start : ℕ) (total : Came T) → Goes leaf w w n n start start total total
goes_start w n start total = record { spent = 0; same_answer = refl; same_cost = omega arith; keeps = keeps_itself w; room = omega arith; owes = omega arith; turns = omega arith }

-- the rest in other words
pub goes_as : {leaf start owed : ℕ} {T : Type 0} (old now : Worker) (n m : ℕ) (total rest same : Came T) → rest ≡ same → Goes leaf old now n m start owed total rest → Goes leaf old now n m start owed total same
goes_as {leaf = leaf} {start = start} {owed = owed} old now n m total rest same e g = subst (λ x. Goes leaf old now n m start owed total x) e g

-- what it goes on with owes less
pub goes_with : {leaf start owed : ℕ} {T : Type 0} (old now : Worker) (n m less : ℕ) (total rest : Came T) → less ≤ owed → Goes leaf old now n m start owed total rest → Goes leaf old now n m start less total rest
goes_with old now n m less total rest l g = record { spent = g.spent; same_answer = g.same_answer; same_cost = g.same_cost; keeps = g.keeps; room = g.room; owes = (let o = g.owes in omega (arith, l, o)); turns = g.turns }

-- a turn is taken
pub goes_turn : {leaf start owed : ℕ} {T : Type 0} (old now : Worker) (n m k : ℕ) (total rest : Came T) → k ≤ m → Goes leaf old now n m start owed total rest → Goes leaf old now n k start owed total rest
goes_turn old now n m k total rest h g = record { spent = g.spent; same_answer = g.same_answer; same_cost = g.same_cost; keeps = g.keeps; room = g.room; owes = g.owes; turns = omega (arith, h, g.turns) }

-- a step has its value, and what it began with is still there
pub goes_on : {leaf start owed begun : ℕ} {T U X : Type 0} (old mid now : Worker) (n m k : ℕ) (total : Came T) (x : Came U) (next : U → ℕ → Came T) (is : X → U) (owing : X → ℕ) (v : X) →
    Goes leaf old mid n m start owed total (and_then x next) → Ends leaf mid now m k begun x is owing (Ok v) → begun ≤ owed → Goes leaf old now n k start (max (owing v) owed) total (next (is v) k)
goes_on {leaf = leaf} {start = start} {owed = owed} {begun = begun} old mid now n m k total x next is owing v g e b =
    let cost : (following x.answer next).cost leaf ≡ (next (is v) k).cost leaf = ap (λ a. (following a next).cost leaf) e.value in
    let all : total.cost leaf ≡ g.spent + (x.cost leaf + (following x.answer next).cost leaf) = g.same_cost in
    let more : now.made ≤ mid.made + x.cost leaf = e.room in
    let own : now.made + owing v ≤ mid.made + (begun + x.cost leaf) = e.owes in
    let all_owed : mid.made + owed ≤ old.made + (start + g.spent) = g.owes in
    record {
      spent = g.spent + x.cost leaf;
      same_answer = g.same_answer ∙ ap (λ a. (following a next).answer) e.value;
      same_cost = omega (arith, all, cost);
      keeps = keeps_trans old mid now g.keeps e.keeps;
      room = omega (arith, g.room, more);
      owes = omega (arith, b, all_owed, more, own);
      turns = omega (arith, g.turns, e.turns);
    }

-- a step ends without a value
pub goes_err : {leaf start owed begun : ℕ} {T U X Y : Type 0} (old mid new : Worker) (n m k : ℕ) (total : Came T) (x : Came U) (next : U → ℕ → Came T) (is : X → U) (owing : X → ℕ) (js : Y → T) (further : Y → ℕ) (h : Halt) →
    Goes leaf old mid n m start owed total (and_then x next) → Ends leaf mid new m k begun x is owing (Err h) → Ends leaf old new n k start total js further (Err h)
goes_err {leaf = leaf} old mid new n m k total x next is owing js further h g e =
    let all : total.cost leaf ≡ g.spent + (x.cost leaf + (following x.answer next).cost leaf) = g.same_cost in
    let more : new.made ≤ mid.made + x.cost leaf = e.room in
    let c : HasHalted old new (following x.answer next).answer h = halted_through old new x.answer next h (halted_before old mid new x.answer h g.keeps.misses e.halted) in
    record {
      value = tt;
      halted = subst (λ a. HasHalted old new a h) (sym g.same_answer) c;
      keeps = keeps_trans old mid new g.keeps e.keeps;
      room = omega (arith, g.room, more, all);
      owes = tt;
      turns = omega (arith, g.turns, e.turns);
    }

-- what a value owes, after what was spent before
pub owes_after : {X : Type 0} (a b c begun owed start spent rest total : ℕ) (owing : X → ℕ) (r : Result X Halt) → begun ≤ owed → b + owed ≤ a + (start + spent) → total ≡ spent + rest
    → IfOk r (λ x. c + owing x ≤ b + (begun + rest)) → IfOk r (λ x. c + owing x ≤ a + (start + total))
owes_after a b c begun owed start spent rest total owing (Ok x) l o t e = omega (arith, l, o, t, e)
owes_after a b c begun owed start spent rest total owing (Err h) l o t e = tt

-- the last step
pub goes_last : {leaf start owed begun : ℕ} {T X : Type 0} (old mid new : Worker) (n m k : ℕ) (total rest : Came T) (is : X → T) (owing : X → ℕ) (r : Result X Halt) →
    Goes leaf old mid n m start owed total rest → Ends leaf mid new m k begun rest is owing r → begun ≤ owed → Ends leaf old new n k start total is owing r
goes_last {leaf = leaf} {start = start} {owed = owed} {begun = begun} old mid new n m k total rest is owing r g e b =
    let more : new.made ≤ mid.made + rest.cost leaf = e.room in
    record {
      value = subst (λ a. IfOk r (λ x. a ≡ Got (is x) k)) (sym g.same_answer) e.value;
      halted = subst (λ a. IfErr r (HasHalted old new a)) (sym g.same_answer) (halted_ends old mid new rest.answer r g.keeps.misses e.halted);
      keeps = keeps_trans old mid new g.keeps e.keeps;
      room = omega (arith, g.room, more, g.same_cost);
      owes = owes_after old.made mid.made new.made begun owed start g.spent (rest.cost leaf) (total.cost leaf) owing r b g.owes g.same_cost e.owes;
      turns = omega (arith, g.turns, e.turns);
    }

-- nothing is left to do
pub goes_got : {leaf start owed : ℕ} {T X : Type 0} (old now : Worker) (n m : ℕ) (total : Came T) (t : T) (is : X → T) (owing : X → ℕ) (v : X) → t ≡ is v
    → Goes leaf old now n m start owed total (got t m) → owing v ≤ owed → Ends leaf old now n m start total is owing (Ok v)
goes_got {leaf = leaf} {start = start} {owed = owed} old now n m total t is owing v s g l = record {
  value = g.same_answer ∙ ap (λ x. Got x m) s;
  halted = tt;
  keeps = g.keeps;
  room = omega (arith, g.room, g.same_cost);
  owes = (let o : now.made + owed ≤ old.made + (start + g.spent) = g.owes in omega (arith, l, o, g.same_cost));
  turns = g.turns;
}

-- what is left is a refusal
pub goes_not : {leaf start owed : ℕ} {T X : Type 0} (old now : Worker) (n m : ℕ) (total : Came T) (why : Refusal) (is : X → T) (owing : X → ℕ) (h : Halt) →
    ((a : Answer T) → a ≡ Not why → HasHalted old now a h) → Goes leaf old now n m start owed total (refused why) → Ends leaf old now n m start total is owing (Err h)
goes_not old now n m total why is owing h c g = record { value = tt; halted = c total.answer g.same_answer; keeps = g.keeps; room = omega (arith, g.room, g.same_cost); owes = tt; turns = g.turns }

-- memory runs out
pub goes_lack : {leaf start owed : ℕ} {T X : Type 0} (old now : Worker) (n m : ℕ) (total rest : Came T) (is : X → T) (owing : X → ℕ) → Goes leaf old now n m start owed total rest → Ends leaf old now n m start total is owing (Err (LACK NoMemory))
goes_lack old now n m total rest is owing g = record { value = tt; halted = tt; keeps = g.keeps; room = omega (arith, g.room, g.same_cost); owes = tt; turns = g.turns }

-- ---- single operations, which take no turn
abbrev pub timed : {T : Type 0} → ℕ → Answer T → Answer T
timed n (Got x m) = Got x n
timed n (Not r) = Not r

halted_timed : {T : Type 0} (old new : Worker) (n : ℕ) (a : Answer T) (h : Halt) → HasHalted old new a h → HasHalted old new (timed n a) h
halted_timed old new n a (ILL f) c = ap (timed n) c
halted_timed old new n a (SIZE at w) c = ap (timed n) c
halted_timed old new n a (TURNS at) c = ap (timed n) c
halted_timed old new n a (LACK Full) c = c
halted_timed old new n a (LACK NoMemory) c = tt

value_timed : {T X : Type 0} (n : ℕ) (a : Answer T) (is : X → T) (r : Result X Halt) → IfOk r (λ x. a ≡ Got (is x) 0) → IfOk r (λ x. timed n a ≡ Got (is x) n)
value_timed n a is (Ok x) v = ap (timed n) v
value_timed n a is (Err h) v = tt

all_halted_timed : {T X : Type 0} (old new : Worker) (n : ℕ) (a : Answer T) (r : Result X Halt) → IfErr r (HasHalted old new a) → IfErr r (HasHalted old new (timed n a))
all_halted_timed old new n a (Ok x) c = tt
all_halted_timed old new n a (Err h) c = halted_timed old new n a h c

-- an operation without turns, evaluated where n turns are left, ends with these n left
pub ends_timed : {leaf : ℕ} {T X : Type 0} (old new : Worker) (n : ℕ) (came then : Came T) (is : X → T) (owing : X → ℕ) (r : Result X Halt) → then.answer ≡ timed n came.answer → then.cost leaf ≡ came.cost leaf
    → Ends leaf old new 0 0 0 came is owing r → Ends leaf old new n n 0 then is owing r
ends_timed {leaf = leaf} old new n came then is owing r a c e =
    let more : new.made ≤ old.made + came.cost leaf = e.room in
    record {
      value = subst (λ x. IfOk r (λ v. x ≡ Got (is v) n)) (sym a) (value_timed n came.answer is r e.value);
      halted = subst (λ x. IfErr r (HasHalted old new x)) (sym a) (all_halted_timed old new n came.answer r e.halted);
      keeps = e.keeps;
      room = omega (arith, more, c);
      owes = owes_after old.made old.made new.made 0 0 0 0 (came.cost leaf) (then.cost leaf) owing r (omega arith) (omega arith) (omega (arith, c)) e.owes;
      turns = omega arith;
    }

operation_answer : (n : ℕ) (o : Operation) → (with_turns o n).answer ≡ timed n (with_turns o 0).answer
operation_answer n (Makes r c) = refl
operation_answer n (Refuses f) = refl

operation_cost : (leaf n : ℕ) (o : Operation) → (with_turns o n).cost leaf ≡ (with_turns o 0).cost leaf
operation_cost leaf n (Makes r c) = refl
operation_cost leaf n (Refuses f) = refl

-- an operation, with so many turns left
pub ends_operation : {leaf : ℕ} {X : Type 0} (old new : Worker) (n : ℕ) (o : Operation) (is : X → Relation) (owing : X → ℕ) (r : Result X Halt) → Ends leaf old new 0 0 0 (with_turns o 0) is owing r
    → Ends leaf old new n n 0 (with_turns o n) is owing r
ends_operation {leaf = leaf} old new n o is owing r e = ends_timed old new n (with_turns o 0) (with_turns o n) is owing r (operation_answer n o) (operation_cost leaf n o) e

-- ---- the first step
pub first_err : {leaf start begun : ℕ} {T U X Y : Type 0} (old new : Worker) (n k : ℕ) (total : Came T) (x : Came U) (next : U → ℕ → Came T) (is : X → U) (owing : X → ℕ) (js : Y → T) (further : Y → ℕ) (h : Halt) →
    total ≡ and_then x next → Ends leaf old new n k begun x is owing (Err h) → Ends leaf old new n k start total js further (Err h)
first_err {start = start} old new n k total x next is owing js further h e ends = goes_err old old new n n k total x next is owing js further h (goes_as old old n n total total (and_then x next) e (goes_start old n start total)) ends

pub first_on : {leaf start begun : ℕ} {T U X : Type 0} (old now : Worker) (n k : ℕ) (total : Came T) (x : Came U) (next : U → ℕ → Came T) (is : X → U) (owing : X → ℕ) (v : X) →
    total ≡ and_then x next → Ends leaf old now n k begun x is owing (Ok v) → begun ≤ start → Goes leaf old now n k start (max (owing v) start) total (next (is v) k)
first_on {start = start} old now n k total x next is owing v e ends b = goes_on old old now n n k total x next is owing v (goes_as old old n n total total (and_then x next) e (goes_start old n start total)) ends b

-- the only step
pub only_step : {leaf start begun : ℕ} {T X : Type 0} (old new : Worker) (n k : ℕ) (total rest : Came T) (is : X → T) (owing : X → ℕ) (r : Result X Halt) → total ≡ rest
    → Ends leaf old new n k begun rest is owing r → begun ≤ start → Ends leaf old new n k start total is owing r
only_step {leaf = leaf} {start = start} old new n k total rest is owing r e ends b = goes_last old old new n n k total rest is owing r (goes_as old old n n total total rest e (goes_start old n start total)) ends b

-- nothing is done but to refuse, or memory runs out
pub refuses : {leaf start : ℕ} {T X : Type 0} (w : Worker) (n : ℕ) (total : Came T) (fault : TypeFault) (is : X → T) (owing : X → ℕ) (h : Halt) →
    total ≡ refused (Ill fault) → (h ≡ ILL fault) ⊎ (h ≡ LACK NoMemory) → Ends leaf w w n n start total is owing (Err h)
refuses {leaf = leaf} {start = start} {X = X} w n total fault is owing h e (inl a) = subst (λ x. Ends leaf {X = X} w w n n start total is owing (Err x)) (sym a)
    (goes_not w w n n total (Ill fault) is owing (ILL fault) (λ b c. c) (goes_as w w n n total total (refused (Ill fault)) e (goes_start w n start total)))
refuses {leaf = leaf} {start = start} {X = X} w n total fault is owing h e (inr b) = subst (λ x. Ends leaf {X = X} w w n n start total is owing (Err x)) (sym b) (goes_lack w w n n total total is owing (goes_start w n start total))

pub lacks : {leaf start : ℕ} {T X : Type 0} (w : Worker) (n : ℕ) (total : Came T) (is : X → T) (owing : X → ℕ) (h : Halt) → h ≡ LACK NoMemory → Ends leaf w w n n start total is owing (Err h)
lacks {leaf = leaf} {start = start} {X = X} w n total is owing h b = subst (λ x. Ends leaf {X = X} w w n n start total is owing (Err x)) (sym b) (goes_lack w w n n total total is owing (goes_start w n start total))

-- a value that is noted, or want of memory
pub ok_map : {X E : Type 0} {P Q : Type 0} (r : Result X E) → (P → Q) → OnOk r P → OnOk r Q
ok_map (Ok x) f p = f p
ok_map (Err e) f p = tt

pub ends_noted : {leaf start owed : ℕ} {T X : Type 0} (old now : Worker) (n m noted : ℕ) (total : Came T) (t there : T) (r : Result X Halt) → OnOk r (there ≡ t) → OnOk r (noted ≤ owed) → IfErr r (λ e. e ≡ LACK NoMemory)
    → Goes leaf old now n m start owed total (got t m) → Ends leaf old now n m start total (λ x. there) (λ x. noted) r
ends_noted old now n m noted total t there (Ok x) o l e g = goes_got old now n m total t (λ y. there) (λ y. noted) x (sym o) g l
ends_noted {leaf = leaf} {start = start} {X = X} old now n m noted total t there (Err h) o l e g =
    subst (λ x. Ends leaf {X = X} old now n m start total (λ y. there) (λ y. noted) (Err x)) (sym e) (goes_lack old now n m total (got t m) (λ y. there) (λ y. noted) g)
