-- What a file that is placed among others makes of the files.
use Rattle.std.proofs.Common.{◌≡◌, ◌≢◌, ◌<◌, ◌+◌, ℕ, Bool, true, false, cond, List, [], ◌∷◌, ◌++◌, Option, Some, None, length, get_or, set, inl, inr, zero, suc, nat_eq, refl, sym, ap, ◌∙◌, arith}
use lib.Pointwise.{pointwise}
use Rattle.std.specs.List.{position, position_from}
use Rattle.std.specs.String.{string_bytes}
use Rattle.std.proofs.lemmas.Bool.{cases_Bool}
use Rattle.std.proofs.lemmas.Iterator.Adapters.{position_from-zero}
use Rattle.std.proofs.lemmas.List.Quantifiers.{position-Some}
use Rattle.std.proofs.lemmas.Slice.Eq.{bytes_eq-Decides}
use Rattle.rv_io.specs.Memory.{File, has_name, file_at}

-- nothing is found where no file passes
none_by : (b : Bool) (i : ℕ) (place : Option ℕ) (bytes : List ℕ) (rest : Option (List ℕ)) → (place ≡ None → rest ≡ None) → cond b (Some i) place ≡ None → cond b (Some bytes) rest ≡ None
none_by true i place bytes rest f e = cc
none_by false i place bytes rest f e = f e

-- where no place of a name is found there is no such file
absent_from : (name : List ℕ) (files : List File) (i : ℕ) → position_from (has_name name) i files ≡ None → file_at files name ≡ None
absent_from name [] i e = refl
absent_from name (file ∷ files) i e = none_by (has_name name file) i _ file.1.items _ (absent_from name files (i + 1)) e

absent : (name : List ℕ) (files : List File) → position (has_name name) files ≡ None → file_at files name ≡ None
absent name files e = absent_from name files 0 (sym (position_from-zero (has_name name) files) ∙ e)

-- a file has one name
other_name : (name other : List ℕ) (file : File) → has_name name file ≡ true → other ≢ name → has_name other file ≡ false
other_name name other file h ne = elim (cases_Bool (has_name other file)) [
  | inl t ↦ absurd (ne (sym ((bytes_eq-Decides (string_bytes file.0) other).0 t) ∙ (bytes_eq-Decides (string_bytes file.0) name).0 h))
  | inr f ↦ f
]

-- the first file of a name, replaced by another of that name, is the one that is found
set_named : (name : List ℕ) (files : List File) (i : ℕ) (file : File) → i < length files → has_name name file ≡ true → ((k : ℕ) (d : File) → k < i → has_name name (get_or files k d) ≡ false) → file_at (set files i file) name ≡ Some file.1.items
set_named name [] i file l h before = absurd (omega arith)
set_named name (x ∷ xs) zero file l h before = ap (λ b. cond b (Some file.1.items) (file_at xs name)) h
set_named name (x ∷ xs) (suc i) file l h before = ap (λ b. cond b (Some x.1.items) (file_at (set xs i file) name)) (before zero x (omega arith)) ∙ set_named name xs i file (omega arith) h (λ k d m. before (suc k) d (omega arith))

-- files of other names stay
set_other : (other : List ℕ) (files : List File) (i : ℕ) (file : File) (d : File) → has_name other file ≡ false → has_name other (get_or files i d) ≡ false → file_at (set files i file) other ≡ file_at files other
set_other other [] i file d h o = refl
set_other other (x ∷ xs) zero file d h o = ap (λ b. cond b (Some file.1.items) (file_at xs other)) h ∙ sym (ap (λ b. cond b (Some x.1.items) (file_at xs other)) o)
set_other other (x ∷ xs) (suc i) file d h o = ap (λ r. cond (has_name other x) (Some x.1.items) r) (set_other other xs i file d h o)

-- a file behind all others is found where none of them has its name
last_by : (b : Bool) (bytes : List ℕ) (rest now : Option (List ℕ)) (new : List ℕ) → (rest ≡ None → now ≡ Some new) → cond b (Some bytes) rest ≡ None → cond b (Some bytes) now ≡ Some new
last_by true bytes rest now new f e = cc
last_by false bytes rest now new f e = f e

last_named : (name : List ℕ) (files : List File) (file : File) → has_name name file ≡ true → file_at files name ≡ None → file_at (files ++ file ∷ []) name ≡ Some file.1.items
last_named name [] file h e = ap (λ b. cond b (Some file.1.items) None) h
last_named name (x ∷ xs) file h e = last_by (has_name name x) x.1.items (file_at xs name) _ file.1.items (last_named name xs file h) e

last_other : (other : List ℕ) (files : List File) (file : File) → has_name other file ≡ false → file_at (files ++ file ∷ []) other ≡ file_at files other
last_other other [] file h = ap (λ b. cond b (Some file.1.items) None) h
last_other other (x ∷ xs) file h = ap (λ r. cond (has_name other x) (Some x.1.items) r) (last_other other xs file h)

-- a file was put: it has the name and the bytes, and files of other names are as they were
pub record IsPut (before files : List File) (name bytes : List ℕ) : Type 0 where
  pub file : file_at files name ≡ Some bytes
  pub others : (other : List ℕ) → other ≢ name → file_at files other ≡ file_at before other

pub put_at : (files : List File) (i : ℕ) (file d : File) (name : List ℕ) → Some i ≡ position (has_name name) files → string_bytes file.0 ≡ string_bytes (get_or files i d).0 → IsPut files (set files i file) name file.1.items
put_at files i file d name e same =
    let p = position-Some (has_name name) files i d (sym e) in
    let named : has_name name file ≡ true = ap (λ ns. pointwise nat_eq ns name) same ∙ p.1 in
    record {
      file = set_named name files i file p.0 named (λ k x l. (position-Some (has_name name) files i x (sym e)).2 k l);
      others = λ other ne. set_other other files i file d (other_name name other file named ne) (other_name name other (get_or files i d) p.1 ne);
    }

pub put_last : (files : List File) (file : File) (name : List ℕ) → None ≡ position (has_name name) files → string_bytes file.0 ≡ name → IsPut files (files ++ file ∷ []) name file.1.items
put_last files file name e same =
    let named : has_name name file ≡ true = (bytes_eq-Decides (string_bytes file.0) name).1 same in
    record {
      file = last_named name files file named (absent name files (sym e));
      others = λ other ne. last_other other files file (other_name name other file named ne);
    }
