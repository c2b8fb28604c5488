mod XorLemmas
mod Pbkdf2Lemmas
