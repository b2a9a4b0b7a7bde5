mod Naming
mod Declaring
