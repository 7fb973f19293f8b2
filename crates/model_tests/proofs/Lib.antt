pub mod CheckedOnes
