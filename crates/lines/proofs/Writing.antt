-- What is written after what was read.
use Rattle.std.proofs.Common.{◌≡◌, ℕ, List, ◌++◌, Some, None, Ok, Err, OnOk, IfSome, Option, Result, ap, ◌∙◌, subst, append_assoc}
use Rattle.std.specs.Io.KnownBytes.{Appends}

-- some bytes are written, and then more
pub appends_more : (old mid new : Option (List ℕ)) (xs ys : List ℕ) → Appends old mid xs → Appends mid new ys → Appends old new (xs ++ ys)
appends_more None mid new xs ys a b = tt
appends_more (Some o) None new xs ys a b = absurd a
appends_more (Some o) (Some m) None xs ys a b = absurd b
appends_more (Some o) (Some m) (Some n) xs ys a b = b ∙ ap (λ z. z ++ ys) a ∙ append_assoc o xs ys

-- the answer to all that was left to read was written
pub replied : {T E V : Type 0} (r : Result T E) (left : Option (List ℕ)) (text : List ℕ) (v : V) (Answers : List ℕ → V → Type 0) (Writes : V → Type 0) →
    IfSome left (λ xs. text ≡ xs) → Answers text v → OnOk r (Writes v) → OnOk r (IfSome left (λ xs. (x : V) × Answers xs x × Writes x))
replied (Err e) left text v Answers Writes is answer writes = writes
replied (Ok x) None text v Answers Writes is answer writes = tt
replied (Ok x) (Some xs) text v Answers Writes is answer writes = (v, subst (λ t. Answers t v) is answer, writes)

-- something was written first, and then the answer
pub shown : {T E V : Type 0} (r : Result T E) (old mid new : Option (List ℕ)) (before : List ℕ) (v : V) (Answers : V → Type 0) (text : V → List ℕ) →
    Appends old mid before → Answers v → OnOk r (Appends mid new (text v)) → OnOk r ((x : V) × Answers x × Appends old new (before ++ text x))
shown (Err e) old mid new before v Answers text first answer writes = writes
shown (Ok x) old mid new before v Answers text first answer writes = (v, answer, appends_more old mid new before (text v) first writes)
