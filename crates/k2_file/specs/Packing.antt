-- A byte under construction, and the bits that follow.
use Rattle.std.specs.Prelude.{◌≡◌, ◌∷◌, ◌++◌, ℕ, Bool, List}
use Rattle.run_model.specs.Files.{packed}
use Rattle.k2_file.specs.declared.packing.Begun.{Begun}

-- a bit was added: whatever follows, the bytes are those of that bit and what follows
abbrev pub PacksBit : List ℕ → Begun → Bool → List ℕ → Begun → Type 0
PacksBit old begun bit new now =
    (rest : List Bool) → new ++ packed now.value now.held rest ≡ old ++ packed begun.value begun.held (bit ∷ rest)
