pub mod FirstStuck
