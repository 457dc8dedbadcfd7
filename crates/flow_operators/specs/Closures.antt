-- What a caller's closure answers. It computes a function if each answer that it may give at x is that of the function at x. Any call may
-- answer out of memory instead.
use Rattle.std.specs.Prelude.{◌≡◌, ◌≢◌, ◌⊎◌, Bool, Result, Ok, Err}
use Rattle.flow_law.specs.declared.chain.ChainFault.{ChainFault}
use Rattle.flow_law.specs.declared.chain.ChainFault.TheVariants.{OutOfMemory}

-- the answer is `meant`, or out of memory
abbrev pub Follows : {B : Type 0} → Result B ChainFault → Result B ChainFault → Type 0
Follows meant (Ok y) = meant ≡ Ok y
Follows meant (Err fault) = (meant ≡ Err fault) ⊎ (fault ≡ OutOfMemory)

-- the answer, seen by `view`, is `meant`, or it is out of memory; `view` gives the items of a list or the run of a chain
abbrev pub FollowsBy : {S P : Type 0} → (S → P) → Result P ChainFault → Result S ChainFault → Type 0
FollowsBy view meant (Ok y) = meant ≡ Ok (view y)
FollowsBy view meant (Err fault) = (meant ≡ Err fault) ⊎ (fault ≡ OutOfMemory)

-- the closure computes f; `post` says what a call may answer
abbrev pub Computes : {A B : Type 0} → (A → Result B ChainFault → Type 0) → (A → Result B ChainFault) → Type 0
Computes {A} {B} post f = (x : A) (r : Result B ChainFault) → post x r → Follows (f x) r

-- a closure that cannot fail computes f
abbrev pub Makes : {A B : Type 0} → (A → B → Type 0) → (A → B) → Type 0
Makes {A} {B} post f = (x : A) (y : B) → post x y → y ≡ f x

-- a closure of two arguments computes f
abbrev pub ComputesPairs : {A B C : Type 0} → (A → B → Result C ChainFault → Type 0) → (A × B → Result C ChainFault) → Type 0
ComputesPairs {A} {B} {C} post f = (x : A) (y : B) (r : Result C ChainFault) → post x y r → Follows (f (x, y)) r

-- the closure computes f, if its answers are seen by `view`
abbrev pub ComputesBy : {A S P : Type 0} → (S → P) → (A → Result S ChainFault → Type 0) → (A → Result P ChainFault) → Type 0
ComputesBy {A} {S} {P} view post f = (x : A) (r : Result S ChainFault) → post x r → FollowsBy view (f x) r

-- the closure opened a chain with this reading, whose run is `meant`; or its fault is the one that is meant, or out of memory
abbrev pub OpensTo : {S P : Type 0} → (S → Type 0) → (S → P) → Result P ChainFault → Result S ChainFault → Type 0
OpensTo reads view meant (Ok y) = reads y × (meant ≡ Ok (view y))
OpensTo reads view meant (Err fault) = (meant ≡ Err fault) ⊎ (fault ≡ OutOfMemory)

-- the closure opens chains: that of an item x has the reading `readings x`, and by it the run f x
abbrev pub Opens : {A S R P : Type 0} → (S → R → Type 0) → (S → R → P) → (A → Result S ChainFault → Type 0) → (A → R) → (A → Result P ChainFault) → Type 0
Opens {A} {S} reads view post readings f = (x : A) (r : Result S ChainFault) → post x r → OpensTo (λ s. reads s (readings x)) (λ s. view s (readings x)) (f x) r

-- each chain that the closure opens satisfies P
abbrev pub OpensOnly : {A S : Type 0} → (S → Type 0) → (A → Result S ChainFault → Type 0) → Type 0
OpensOnly {A} {S} P post = (x : A) (s : S) → post x (Ok s) → P s

-- no call of the closure answers out of memory
abbrev pub NeverRefuses : {A B : Type 0} → (A → Result B ChainFault → Type 0) → Type 0
NeverRefuses {A} {B} post = (x : A) (r : Result B ChainFault) → post x r → r ≢ Err OutOfMemory

-- no call of a closure of two arguments answers out of memory
abbrev pub NeverRefusesPairs : {A B C : Type 0} → (A → B → Result C ChainFault → Type 0) → Type 0
NeverRefusesPairs {A} {B} {C} post = (x : A) (y : B) (r : Result C ChainFault) → post x y r → r ≢ Err OutOfMemory

-- no call of a closure that changes answers out of memory; `step` says what a call answers, and what the closure becomes
abbrev pub NeverRefusesVisits : {A B F : Type 0} → (F → A → Result B ChainFault → F → Type 0) → Type 0
NeverRefusesVisits {A} {B} {F} step = (f g : F) (x : A) (r : Result B ChainFault) → step f x r g → r ≢ Err OutOfMemory

-- the closure computes the test
abbrev pub Decides : {A : Type 0} → (A → Bool → Type 0) → (A → Bool) → Type 0
Decides {A} post test = (x : A) (b : Bool) → post x b → b ≡ test x
