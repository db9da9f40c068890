-- Definitions, which are done at once; and what is so of things that are the same.
use Rattle.std.proofs.Common.{◌≡◌, ℕ, List, [], Result, refl, sym, subst}
use Rattle.rel_model.specs.declared.NoMemory.{NoMemory as LACK}
use Rattle.rel_model.specs.Worker.{Worker}
use Rattle.lang_model.specs.declared.syntax.Item.{Item}
use Rattle.lang_model.specs.declared.syntax.Item.TheVariants.{Function, Program}
use Rattle.lang_model.specs.declared.syntax.Script.{Script}
use Rattle.run_model.specs.declared.outcome.Outcome.TheVariants.{Done}
use Rattle.run_model.specs.Inputs.{Input}
use Rattle.run_model.specs.Due.{due}
use Rattle.turn_book.specs.Views.{View as PASS}
use Rattle.rv_sessions.specs.declared.told.Told.{Told}
use Rattle.rv_sessions.specs.Doing.{Did}
use Rattle.rv_sessions.specs.Standing.{Kept, KeptStand}
use Rattle.rv_sessions.proofs.Asking.{defined}

pub moved_all : {S : Type 0} (P : Item → S → Kept → Result Told LACK → Type 0) (i j : Item) (e f : S) (k l : Kept) (r t : Result Told LACK) →
    i ≡ j → e ≡ f → k ≡ l → r ≡ t → P j f l t → P i e k r
moved_all P i j e f k l r t a b c d h =
    subst (λ y. P y e k r) (sym a) (subst (λ y. P j y k r) (sym b) (subst (λ y. P j f y r) (sym c) (subst (λ y. P j f l y) (sym d) h)))

module _ (leaf : ℕ) (input : Input) (script : Script) (s c : ℕ) where
  pub function_did : (at : _) (name : List ℕ) (params : _) (body : _) (w : Worker) (p : PASS) (snaps : Kept) → KeptStand w snaps →
      Did leaf input script s c (Function at name params body) w w p p snaps snaps Done [] []
  unfolding due
  function_did at name params body w p snaps stood =
      defined leaf input script s c (Function at name params body) w p snaps stood (λ state snap. refl) refl refl refl refl

  pub program_did : (at : _) (name : List ℕ) (params : _) (decls : _) (body : _) (result : _) (w : Worker) (p : PASS) (snaps : Kept) → KeptStand w snaps →
      Did leaf input script s c (Program at name params decls body result) w w p p snaps snaps Done [] []
  unfolding due
  program_did at name params decls body result w p snaps stood =
      defined leaf input script s c (Program at name params decls body result) w p snaps stood (λ state snap. refl) refl refl refl refl
