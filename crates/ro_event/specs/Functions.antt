-- The functions of POSIX threads, and their names.
use Rattle.std.specs.Prelude.{ℕ, Bool, List, [], ◌∷◌, map, codes}
use Rattle.ro_event.specs.declared.functions.Function.{Function}
use Rattle.ro_event.specs.declared.functions.Function.TheVariants.{Create, Join, Exit, ThreadSelf, MutexInit, MutexDestroy, Lock, TryLock, Unlock, ConditionInit, ConditionDestroy, Wait, Signal, Broadcast}

-- the name of a function in a program's symbols
abbrev pub name_of : Function → List ℕ
name_of Create = codes "pthread_create"
name_of Join = codes "pthread_join"
name_of Exit = codes "pthread_exit"
name_of ThreadSelf = codes "pthread_self"
name_of MutexInit = codes "pthread_mutex_init"
name_of MutexDestroy = codes "pthread_mutex_destroy"
name_of Lock = codes "pthread_mutex_lock"
name_of TryLock = codes "pthread_mutex_trylock"
name_of Unlock = codes "pthread_mutex_unlock"
name_of ConditionInit = codes "pthread_cond_init"
name_of ConditionDestroy = codes "pthread_cond_destroy"
name_of Wait = codes "pthread_cond_wait"
name_of Signal = codes "pthread_cond_signal"
name_of Broadcast = codes "pthread_cond_broadcast"

-- all functions, in the order of the call table
abbrev pub functions : List Function
functions =
    Create ∷ Join ∷ Exit ∷ ThreadSelf ∷ MutexInit ∷ MutexDestroy ∷ Lock ∷ TryLock ∷ Unlock ∷ ConditionInit ∷ ConditionDestroy ∷ Wait ∷ Signal ∷ Broadcast ∷ []

abbrev pub names : List (List ℕ)
names = map name_of functions
