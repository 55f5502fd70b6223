-- What contracts see of a kernel.
use Rattle.ro_kernel.specs.Kernel.{Setup, Kernel}

pub record State : Type 0 where
  pub setup : Setup
  pub kernel : Kernel
