-- Sessions whose bytes are no script that runs.
use Rattle.std.proofs.Common.{◌≡◌, ◌≤◌, ◌+◌, ◌⊎◌, ◌∙◌, inl, inr, ℕ, List, [], ◌∷◌, ◌++◌, Result, Ok, Err, IfOk, Some, None, refl, sym, ap, subst, arith}
use Rattle.lang_model.specs.declared.syntax.Script.{Script}
use Rattle.lang_model.specs.declared.faults.ParseFault.{ParseFault}
use Rattle.lang_model.specs.declared.faults.TypeFault.{TypeFault}
use Rattle.lang_model.specs.declared.faults.TypeFault.TheVariants.{NoMemory as NO_MEMORY_TO_CHECK}
use Rattle.lang_model.specs.Checking.{flaw}
use Rattle.lang_model.specs.Spelling.{SpelledBy}
use Rattle.rv_parse.specs.Stops.{StopsAt}
use Rattle.rel_model.specs.declared.NoMemory.{NoMemory as LACK}
use Rattle.run_model.specs.Page.{refusals}
use Rattle.run_model.specs.Texts.{prefix, refusal_text}
use Rattle.rel_model.specs.Worker.{Worker}
use Rattle.run_model.specs.declared.outcome.Outcome.{Outcome}
use Rattle.run_model.specs.declared.outcome.Outcome.TheVariants.{Done, Parse, Ill, NoMemory}
use Rattle.run_model.specs.Inputs.{Input, Reading, NoScript, Flawed, Runs}
use Rattle.turn_book.specs.Views.{View}
use Rattle.rv_sessions.specs.declared.transcript.Transcript.{Transcript}
use Rattle.rv_sessions.specs.declared.transcript.Reply.{Reply}
use Rattle.rv_sessions.specs.Noting.{IsBare, TellsOne}
use Rattle.rv_sessions.specs.Telling.{text_of, texts_of}
use Rattle.rv_sessions.specs.Sessions.{DidNothing, DidReading, Refused, RanScript, RanBytes, IsRead, TellsFault, TellsFlaw, refusal_of}
use Rattle.rv_sessions.proofs.Telling.{lack_is_not_done}

-- nothing is done where worker and pass are as they were
pub idle : (w : Worker) (v : View) → DidNothing w w v v
idle w v = record { seen = refl; mine = refl; made = none w.made; misses = refl }
  where
    none : (n : ℕ) → n ≤ n + 0
    none n = omega arith

-- the outcome of bytes that do not run is a refusal
pub no_done : (bytes : List ℕ) (outcome : Outcome) → IsRead bytes (Err outcome) → outcome ≡ Done → ⊥
no_done bytes outcome (inl lacks) e = lack_is_not_done (sym lacks ∙ e)
no_done bytes outcome (inr (reading, reads, told)) e = refuses reading (told ∙ ap Some e)
  where
    refuses : (reading : Reading) → refusal_of reading ≡ Some Done → ⊥
    refuses (NoScript fault) h = cc
    refuses (Flawed fault) h = cc
    refuses (Runs script) h = cc

-- a session that tells this outcome, and did nothing, did what its reading asks
pub refused_reading : (leaf : ℕ) (input : Input) (s : ℕ) (reading : Reading) (outcome : Outcome) (old new : Worker) (before after : View) (told : Transcript) →
    refusal_of reading ≡ Some outcome → TellsOne s outcome told → DidNothing old new before after → DidReading leaf input s reading old new before after told
refused_reading leaf input s (NoScript fault) outcome old new before after told e t n =
    subst (λ o. Refused s o old new before after told) (sym same) (record { outcomes = t.outcomes; text = t.text; saved = t.saved; nothing = n })
  where
    same : Parse fault ≡ outcome
    same = cc
refused_reading leaf input s (Flawed fault) outcome old new before after told e t n =
    subst (λ o. Refused s o old new before after told) (sym same) (record { outcomes = t.outcomes; text = t.text; saved = t.saved; nothing = n })
  where
    same : Ill fault ≡ outcome
    same = cc
refused_reading leaf input s (Runs script) outcome old new before after told e t n = absurd (no_refusal outcome e)
  where
    no_refusal : (o : Outcome) → None ≡ Some o → ⊥
    no_refusal o h = cc

-- ---- what is told of bytes
pub fault_read : (bytes : List ℕ) (fault : ParseFault) (outcome : Outcome) → StopsAt bytes fault → TellsFault fault outcome → IsRead bytes (Err outcome)
fault_read bytes fault outcome stops (inl (lack, told)) = inl told
fault_read bytes fault outcome stops (inr (other, told)) =
    inr (NoScript fault, (let s = stops other in (s.1, s.0)), ap Some (sym told))

pub flaw_read : (bytes : List ℕ) (script : Script) (f : TypeFault) (outcome : Outcome) → SpelledBy bytes script →
    (f ≡ NO_MEMORY_TO_CHECK) ⊎ (flaw script ≡ Some f) → TellsFlaw f outcome → IsRead bytes (Err outcome)
flaw_read bytes script f outcome spelled found (inl (lack, told)) = inl told
flaw_read bytes script f outcome spelled (inl lack) (inr (other, told)) = absurd (other lack)
flaw_read bytes script f outcome spelled (inr found) (inr (other, told)) =
    inr (Flawed f, (script, spelled, found), ap Some (sym told))

-- one refusal, noted in lists that had nothing in them
pub one_told : (s : ℕ) (outcome : Outcome) (lists : Transcript) (reply : Reply) (new : Transcript) → IsBare 1 lists →
    text_of reply ≡ prefix s 0 ++ refusal_text outcome → new.outcomes.items ≡ lists.outcomes.items ++ outcome ∷ [] →
    new.replies.items ≡ lists.replies.items ++ reply ∷ [] → new.saves.items ≡ lists.saves.items → TellsOne s outcome new
unfolding refusals
one_told s outcome lists reply new bare told os rs ss = record {
  outcomes = os ∙ ap (λ l. l ++ outcome ∷ []) bare.outcomes;
  text = ap texts_of (rs ∙ ap (λ l. l ++ reply ∷ []) bare.replies) ∙ ap (λ t. t ++ []) told;
  saved = ss ∙ bare.saves;
}

module _ (leaf : ℕ) (input : Input) (s : ℕ) (bytes : List ℕ) where
  -- a session that ran the script that its bytes spell did what they ask
  pub ran_bytes : (script : Script) (old new : Worker) (before after : View) (r : Result Transcript LACK) → IsRead bytes (Ok script) →
      IfOk r (RanScript leaf input s script old new before after) → IfOk r (RanBytes leaf input s bytes old new before after)
  ran_bytes script old new before after (Ok told) reads ran = record { reading = Runs script; reads = reads; did = ran }
  ran_bytes script old new before after (Err lack) reads ran = tt

  -- and so did one that told why they do not run
  pub refused_bytes : (outcome : Outcome) (w : Worker) (v : View) (r : Result Transcript LACK) → IsRead bytes (Err outcome) →
      IfOk r (λ t. TellsOne s outcome t × (outcome ≡ NoMemory → ⊥)) → IfOk r (RanBytes leaf input s bytes w w v v)
  refused_bytes outcome w v (Ok told) (inl lack) (one, other) = absurd (other lack)
  refused_bytes outcome w v (Ok told) (inr (reading, reads, is)) (one, other) =
      record { reading = reading; reads = reads; did = refused_reading leaf input s reading outcome w w v v told is one (idle w v) }
  refused_bytes outcome w v (Err lack) reads told = tt
