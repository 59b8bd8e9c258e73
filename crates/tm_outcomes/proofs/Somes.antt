-- What is in equal options is equal.
use Rattle.std.proofs.Common.{◌≡◌, Some}

pub same_in : {A : Type 0} {x y : A} → Some x ≡ Some y → x ≡ y
same_in e = cc
